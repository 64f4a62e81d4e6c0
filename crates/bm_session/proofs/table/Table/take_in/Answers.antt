use Rattle.std.proofs.Common.{◌≡◌, ◌++◌, ◌∷◌, [], Some, None, true, refl, sym, ◌∙◌, ap, subst}
use Rattle.std.specs.Prelude.{Option, is_some}
use Rattle.bm_session.specs.declared.event.Event.TheVariants.{In}
use Rattle.bm_session.specs.declared.event.Body.TheVariants.{Answered}
use Rattle.bm_session.specs.declared.reply.Verdict.{Verdict}
use Rattle.bm_session.specs.Table.{IsTable}
use Rattle.bm_session.proofs.Hearing.{taken-response, taken-repeat, asks-other}
use Rattle.bm_session.proofs.table.Table.take_in.Goals as goal

pub returns-else-fault-clause-table : goal.returns-else-fault-clause-table
returns-else-fault-clause-table c = λ t is w up.
    subst (λ b. IsTable c.args.self.now (t ++ In c.args.number b ∷ [])) (sym (c.in-Answered.is ∙ ap Answered c.if-fault.false)) (taken-response c.args.self.now t c.args.number is up)

some : (o : Option Verdict) → is_some o ≡ true → (v : Verdict) × (o ≡ Some v)
some None h = cc
some (Some v) h = (v, refl)

pub returns-else-is_none-clause-table : goal.returns-else-is_none-clause-table
returns-else-is_none-clause-table c = λ t is w up.
    let had = some c.verdict.result c.if-is_none.ensures in
    taken-repeat c.args.self.now t c.args.number c.args.body.now had.0 is up (asks-other c.args.body.now c.in_default.not-Answered) (sym c.verdict.ensures ∙ had.1)
