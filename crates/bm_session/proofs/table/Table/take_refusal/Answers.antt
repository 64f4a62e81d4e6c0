use Rattle.std.proofs.Common.{refl, sym, ◌∙◌, ap}
use Rattle.std.specs.Prelude.{find, ◌==◌}
use Rattle.bm_session.specs.declared.open.Open.{Open}
use Rattle.bm_session.specs.Ranges.{RangeList}
use Rattle.bm_session.proofs.Hearing.{listed-inside, taken-refusal, untaken-refusal}
use Rattle.bm_session.proofs.table.Table.take_refusal.Goals as goal

pub end-requires : goal.end-requires
end-requires c =
    listed-inside c.args.self.now c.requires.0 (λ (o : Open). o.order == c.args.number) c.in-Some.entry c.requires.1
    (sym (c.with_order.ensures ∙ ap (find (λ (o : Open). o.order == c.args.number)) c.as_slice.ensures.value) ∙ c.in-Some.is)

pub returns-in-Some-clause-table : goal.returns-in-Some-clause-table
returns-in-Some-clause-table c = λ t is w up.
    taken-refusal c.args.self.now c.end.new.self t c.args.number c.in-Some.entry is w up
    (sym (c.with_order.ensures ∙ ap (find (λ (o : Open). o.order == c.args.number)) c.as_slice.ensures.value) ∙ c.in-Some.is)
    (record { listed = c.end.ensures.listed; ended = c.end.ensures.ended; link = c.end.ensures.link; orders = c.end.ensures.orders })
    (ap (λ (r : RangeList). r.ranges) c.end.ensures.seen)

pub returns-in_default-clause-table : goal.returns-in_default-clause-table
returns-in_default-clause-table c = λ t is w up.
    untaken-refusal c.args.self.now _ t c.args.number is up
    (sym (c.with_order.ensures ∙ ap (find (λ (o : Open). o.order == c.args.number)) c.as_slice.ensures.value) ∙ c.in_default.is) refl
