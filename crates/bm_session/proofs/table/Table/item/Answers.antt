use Rattle.std.proofs.Common.{◌≡◌, ◌∙◌, ap, sym, None}
use Rattle.bm_session.specs.declared.event.Event.TheVariants.{In}
use Rattle.bm_session.specs.Trace.{item, refusal}
use Rattle.bm_session.proofs.Taken.{not-up}
use Rattle.bm_session.proofs.Hearing.{item-end}
use Rattle.bm_session.proofs.table.Table.item.Goals as goal

pub returns-in-Some-clause-item : goal.returns-in-Some-clause-item
returns-in-Some-clause-item c = λ t is r.
    let r' : refusal t (In c.in-In.n c.in-In.body) ≡ None = ap (refusal t) (sym c.in-In.is) ∙ r in
    item-end t c.in-In.n c.in-In.body c.in-Some.entry c.is_fault.result c.ends_as.result
    (sym (c.ended.ensures t is (not-up t _ r')) ∙ c.in-Some.is) (c.is_fault.ensures c.in-In.n) c.ends_as.ensures
    ∙ ap (item t) (sym c.in-In.is)
