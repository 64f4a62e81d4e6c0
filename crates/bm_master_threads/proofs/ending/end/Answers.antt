-- The results are those of the coordinator, and the lanes were settled as `close` says.
use Rattle.std.proofs.Common.{◌∙◌, ap}
use Rattle.std.specs.Prelude.{◌||◌, not}
use Rattle.std.specs.Option.{option_map_or}
use Rattle.bm_operator.specs.Exit.{exit_status}
use Rattle.bm_master_threads.proofs.ending.end.Goals as goal

pub returns : goal.returns
returns g c = (
  c.results-results.result,
  c.close-is_settled.result,
  c.results-results.ensures,
  c.status_of.ensures
      ∙ ap (λ f. option_map_or (λ all. exit_status all.items (f || not c.args.left.is_whole || not c.close-is_settled.result)) c.results-results.result 1) c.has_failed-has_failed.ensures,
)
