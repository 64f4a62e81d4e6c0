use Rattle.std.proofs.Common.{◌∙◌, sym}
use Rattle.bm_session.specs.declared.event.Event.TheVariants.{In}
use Rattle.bm_session.proofs.Hearing.{answer-new}
use Rattle.bm_session.proofs.table.Table.answer.Goals as goal

pub returns-in-None : goal.returns-in-None
returns-in-None c = λ t is up. c.verdict-in-None.ensures t c.args.number is ∙ answer-new c.args.self.now t c.args.number (In c.args.number c.args.body.now) is up (sym c.verdict.ensures ∙ c.in-None.is)
