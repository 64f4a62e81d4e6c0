-- A look at a sweep that goes on counts for a little, however late it comes.
use Rattle.std.proofs.Common.{◌≡◌, refl, ap, ◌∙◌, ℕ, ◌+◌, ◌<◌, ◌≤◌, Bool, true, cond, List, [], ◌∷◌, length, Option, Some, None, arith}
use Rattle.std.specs.Prelude.{◌*◌, ◌-◌, ◌==◌, ◌&&◌, not, nat_lt}
use Rattle.std.proofs.lemmas.Bool.Decides.{nat_tests}
use Rattle.bm_outbox.specs.Pipes.{are_over}
use Rattle.bm_outbox.specs.Stopping.{stop_end, stopped_ms}
use Rattle.bm_outbox.specs.declared.stopping.Leftover.{Leftover}
use Rattle.bm_outbox.specs.declared.stopping.Leftover.TheVariants as leftover
use Rattle.bm_outbox.specs.declared.stopping.StopCause.{StopCause}
use Rattle.bm_outbox.specs.declared.stopping.Sweep.TheVariants as sweep
use Rattle.bm_commands.specs.declared.values.ProcessLook.{ProcessLook}
use Rattle.bm_commands.specs.declared.values.CommandPhase.TheVariants as phase
use Rattle.bm_commands.specs.declared.values.CommandRow.{CommandRow}
use Rattle.bm_commands.specs.Rows.{looked, looked_in, stop_looked_to, swept}
use Rattle.bm_commands.specs.Laws.{StandstillsEndNothing, SweepGoesOn, looked_on, phase_is_stopping}
use Rattle.bm_commands.proofs.Counted.{both}

counts-little : (c passed : ℕ) → stopped_ms c passed ≤ c + 20
counts-little c passed = omega arith

soon : (ms : ℕ) → ms < 5000 → nat_lt ms 5000 ≡ true
soon ms h = grind (arith, nat_tests, h)

waits : (ms : ℕ) (is_silent : Bool) → ms < 5000 → stop_end sweep.Going ms is_silent ≡ None
waits ms is_silent h =
    both (λ (o : Option Leftover). o ≡ None) (not is_silent && nat_lt ms 200) _ _ refl (ap (λ b. cond b None (Some leftover.NoLook)) (soon ms h))

goes-on : (why : StopCause) (c now : ℕ) (seen : ProcessLook) (r : CommandRow) → r.phase ≡ phase.Stopping why c → swept seen ≡ sweep.Going → stopped_ms c (now - r.looked_ms) < 5000 → (looked now seen r).phase ≡ phase.Stopping why (stopped_ms c (now - r.looked_ms))
goes-on why c now seen r e g h =
    let ms : ℕ = stopped_ms c (now - r.looked_ms) in
    let s : Bool = (r.texts == 0) && are_over r.pipes in
    ap (λ q. (looked_in q now seen r).phase) e
    ∙ ap (λ w. (stop_looked_to (stop_end w ms s) why ms now r).phase) g
    ∙ ap (λ o. (stop_looked_to o why ms now r).phase) (waits ms s h)

ends-nothing : (why : StopCause) (ls : List (ℕ × ProcessLook)) (c : ℕ) (r : CommandRow) → r.phase ≡ phase.Stopping why c → SweepGoesOn ls → c + 20 * length ls < 5000 → phase_is_stopping (looked_on ls r).phase ≡ true
ends-nothing why [] c r e g h = ap phase_is_stopping e
ends-nothing why (l ∷ ls) c r e g h =
    let next = stopped_ms c (l.0 - r.looked_ms) in
    let little : next ≤ c + 20 = counts-little c (l.0 - r.looked_ms) in
    ends-nothing why ls next (looked l.0 l.1 r) (goes-on why c l.0 l.1 r e g.0 (omega (arith, little, h))) g.1 (omega (arith, little, h))

pub standstills_end_nothing : StandstillsEndNothing
standstills_end_nothing why r ls e g h = ends-nothing why ls 0 r e g (omega (arith, h))
