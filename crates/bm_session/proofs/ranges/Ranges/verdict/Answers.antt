use Rattle.std.proofs.Common.{◌≡◌, ◌≤◌, ◌<◌, Some, None, true, false, cond, arith, sym, ◌∙◌, ap, subst}
use Rattle.std.specs.Prelude.{ℕ, nat_le}
use Rattle.std.proofs.lemmas.Bool.Decides.{nat_tests}
use Rattle.bm_session.specs.declared.seen.Seen.{Seen}
use Rattle.bm_session.specs.Seen.{verdict_in}
use Rattle.bm_session.specs.Ranges.{RangeList, IsPlace}
use Rattle.bm_session.proofs.Merged.{verdict_of}
use Rattle.bm_session.proofs.Inserted.{verdict-first, verdict-place}
use Rattle.bm_session.proofs.ranges.Ranges.verdict.Goals as goal

inside : (r : Seen) (n : ℕ) → n ≤ r.last → verdict_of r n ≡ Some r.verdict
inside r n le = let on : nat_le n r.last ≡ true = grind (arith, nat_tests) in ap (λ b. cond b (Some r.verdict) None) on

outside : (r : Seen) (n : ℕ) → r.last < n → verdict_of r n ≡ None
outside r n l = let off : nat_le n r.last ≡ false = grind (arith, nat_tests) in ap (λ b. cond b (Some r.verdict) None) off

pub returns-then-place-eq0 : goal.returns-then-place-eq0
returns-then-place-eq0 c =
    sym (verdict-first c.args.self.now.ranges c.args.number (subst (λ i. IsPlace c.args.self.now.ranges c.args.number i) c.if-place-eq0.true c.place-place.ensures))

pub returns-then-number-range : goal.returns-then-number-range
returns-then-number-range c =
    let same = ap (λ (r : RangeList). r.ranges) c.self.view_is in
    let items = c.self.inside.vec.items in
    let place : IsPlace items c.args.number c.place-place.result = subst (λ ys. IsPlace ys c.args.number c.place-place.result) (sym same) c.place-place.ensures in
    sym (ap (λ ys. verdict_in ys c.args.number) (sym same)
    ∙ verdict-place items c.args.number c.place-place.result c.index-range.result.now (omega arith) c.self.invariant place
    ∙ ap (λ r. verdict_of r c.args.number) (sym c.index-range.ensures)
    ∙ inside c.index-range.result.now c.args.number c.if-number-range.true)

pub returns-else-number-range : goal.returns-else-number-range
returns-else-number-range c =
    let same = ap (λ (r : RangeList). r.ranges) c.self.view_is in
    let items = c.self.inside.vec.items in
    let place : IsPlace items c.args.number c.place-place.result = subst (λ ys. IsPlace ys c.args.number c.place-place.result) (sym same) c.place-place.ensures in
    sym (ap (λ ys. verdict_in ys c.args.number) (sym same)
    ∙ verdict-place items c.args.number c.place-place.result c.index-range.result.now (omega arith) c.self.invariant place
    ∙ ap (λ r. verdict_of r c.args.number) (sym c.index-range.ensures)
    ∙ outside c.index-range.result.now c.args.number c.if-number-range.false)
