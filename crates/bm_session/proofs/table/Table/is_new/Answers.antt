use Rattle.std.proofs.Common.{◌∙◌, ap, sym}
use Rattle.std.specs.Prelude.{is_none}
use Rattle.bm_session.proofs.Stepped.{is_new-seen, none-some}
use Rattle.bm_session.proofs.table.Table.is_new.Goals as goal

pub returns : goal.returns
returns c = λ t is up. none-some _ _ (sym c.is_none.ensures) ∙ ap (λ o. is_none o) (c.verdict.ensures ∙ is.had c.args.number) ∙ is_new-seen t c.args.number up
