use Rattle.std.proofs.Common.{◌≡◌, ◌∙◌, ◌⊎◌, sym, subst}
use Rattle.bm_value.specs.View.{tree}
use Rattle.bm_link.specs.declared.fault.LinkFault.{LinkFault}
use Rattle.bm_link.specs.declared.fault.LinkFault.TheVariants.{BadMessage, Mem}
use Rattle.bm_link.proofs.Unread.{unread_kinds, unsaid}
use Rattle.bm_link.proofs.received.incoming_in.Goals as goal

-- it says nothing
pub returns-in-Err-clause-bad : goal.returns-in-Err-clause-bad
returns-in-Err-clause-bad c = λ bad. unsaid (tree c.args.message.now) c.in-Err.error c.in-Err.ensures.only (sym c.unread_fault.ensures ∙ bad)

pub returns-in-Err-clause-fault : goal.returns-in-Err-clause-fault
returns-in-Err-clause-fault c =
    subst (λ (f : LinkFault). (f ≡ BadMessage) ⊎ (f ≡ Mem)) (sym c.unread_fault.ensures) (unread_kinds c.in-Err.error)
