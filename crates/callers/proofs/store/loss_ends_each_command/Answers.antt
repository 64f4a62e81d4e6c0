-- Each command of the book has an end behind a loss.
use Rattle.std.proofs.Common.{rules, IsSome, Some, None}
use Rattle.std.specs.List.{slice_index_or}
use Rattle.std.proofs.lemmas.List.Elements.{All-map, All-same}
use Rattle.std.proofs.lemmas.Result.{on_ok_weaker}
use Rattle.bm_session.specs.declared.results.Results.TheVariants.{Retry}
use Rattle.bm_store.specs.Book.{Logs, with_end}
use Rattle.bm_store.specs.Kept.{logs_in}
use Rattle.callers.proofs.store.loss_ends_each_command.Goals as goal

ended : (l : Logs) → IsSome (with_end Retry l).ended
ended l = elim l.ended as (λ e. IsSome (with_end Retry (record { blocks = l.blocks; ended = e })).ended) [ Some r ↦ search rules | None ↦ search rules ]

pub returns : goal.returns
returns c =
    let each = λ (l : Logs). IsSome l.ended in
    on_ok_weaker c.apply.result (λ e. All-same each _ _ e (All-map each (with_end Retry) (logs_in c.args.book.now) (λ k d h. ended (slice_index_or (logs_in c.args.book.now) k d)))) c.apply.ensures.logs
