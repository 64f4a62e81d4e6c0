use Rattle.std.proofs.Common.{◌≡◌, ◌==◌, ℕ, true, false, arith}
use Rattle.std.proofs.lemmas.Bool.Decides.{nat_tests}
use Rattle.bm_session.specs.declared.open.Open.{Open}
use Rattle.bm_session.proofs.Lookups.{find_more, find_here}
use Rattle.bm_session.proofs.open.with_order.Goals as goal

equal : (a b : ℕ) → a ≡ b → (a == b) ≡ true
equal a b e = grind (arith, nat_tests)

different : (a b : ℕ) → (a ≡ b → ⊥) → (a == b) ≡ false
different a b e = grind (arith, nat_tests)

pub returns-then-entry-order : goal.returns-then-entry-order
returns-then-entry-order c = find_here (λ (o : Open). o.order == c.args.order) c.args.listed.now c.loop-entry.entry-index _ c.loop-entry-test.true (equal _ _ c.if-entry-order.true) c.loop-entry.invariant

pub loop-entry-preserved : goal.loop-entry-preserved
loop-entry-preserved c = find_more (λ (o : Open). o.order == c.args.order) c.args.listed.now c.loop-entry.entry-index _ c.loop-entry-test.true (different _ _ c.if-entry-order.false) c.loop-entry.invariant
