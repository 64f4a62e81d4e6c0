use Rattle.std.proofs.Common.{◌≡◌, ◌∙◌, ◌⊎◌, sym, subst}
use Rattle.bm_value.specs.View.{tree}
use Rattle.bm_link.specs.declared.fault.LinkFault.{LinkFault}
use Rattle.bm_link.specs.declared.fault.LinkFault.TheVariants.{BadMessage, Mem}
use Rattle.bm_link.proofs.Unread.{unread, unread_kinds}
use Rattle.bm_link.proofs.reading.message_in.Goals as goal

-- there is no message
pub returns-in-Err-clause-bad : goal.returns-in-Err-clause-bad
returns-in-Err-clause-bad g c = λ bad. unread (tree c.args.value.now) c.in-Err.error c.in-Err.ensures.only (sym c.unread_fault.ensures ∙ bad)

pub returns-in-Err-clause-fault : goal.returns-in-Err-clause-fault
returns-in-Err-clause-fault g c =
    subst (λ (f : LinkFault). (f ≡ BadMessage) ⊎ (f ≡ Mem)) (sym c.unread_fault.ensures) (unread_kinds c.in-Err.error)
