use Rattle.std.proofs.Common.{◌≡◌, ◌∙◌, ◌⊎◌, sym, subst}
use Rattle.bm_value.specs.View.{tree}
use Rattle.bm_link.specs.declared.fault.LinkFault.{LinkFault}
use Rattle.bm_link.specs.declared.fault.LinkFault.TheVariants.{BadMessage, Mem}
use Rattle.bm_link.proofs.Unread.{unread_kinds, no_event}
use Rattle.bm_link.proofs.incoming.event_in.Goals as goal

-- it is no event
pub returns-in-Err-clause-bad : goal.returns-in-Err-clause-bad
returns-in-Err-clause-bad c = λ bad. no_event (tree c.args.message.now) c.in-Err.error c.in-Err.ensures.wants (sym c.unread_fault.ensures ∙ bad)

pub returns-in-Err-clause-fault : goal.returns-in-Err-clause-fault
returns-in-Err-clause-fault c =
    subst (λ (f : LinkFault). (f ≡ BadMessage) ⊎ (f ≡ Mem)) (sym c.unread_fault.ensures) (unread_kinds c.in-Err.error)
