-- What follows for a build's steps, whatever comes.
use Rattle.std.specs.Prelude.{◌≡◌, ℕ, ◌+◌, ◌-◌, ◌≤◌, Bool, true, false, ◌&&◌, ◌||◌, not, if◌then◌else◌, List, [], ◌∷◌, count_by, Some, is_some}
use Rattle.std.specs.List.{list_any}
use Rattle.bm_runner.specs.declared.port.Polled.{Polled}
use Rattle.bm_runner.specs.declared.port.Polled.TheVariants.{Ended}
use Rattle.bm_lane_actor.specs.declared.cancel_policy.Interruption.TheVariants as order
use Rattle.bm_lane_actor.specs.declared.step_machine.StepInput.{StepInput}
use Rattle.bm_lane_actor.specs.declared.step_machine.StepInput.TheVariants.{Next, Started, Refused, Ticked, Ordered}
use Rattle.bm_lane_actor.specs.declared.step_machine.StepActs.{StepActs}
use Rattle.bm_lane_actor.specs.StepMachine.{StepView, is_cancel, is_cancelled, step_acts, step_after}

-- the machine after these inputs, and what it told to do, an answer an input
abbrev pub after : StepView → List StepInput → StepView
after s [] = s
after s (i ∷ is) = after (step_after i s) is

abbrev pub acts : StepView → List StepInput → List StepActs
acts s [] = []
acts s (i ∷ is) = step_acts i s ∷ acts (step_after i s) is

abbrev pub one_if : Bool → ℕ
one_if b = if b then 1 else 0

-- a step's command was started
abbrev pub is_start : StepInput → Bool
is_start (Started max_bytes timeout_ticks silent_ticks set) = true
is_start i = false

-- From here an order to interrupt is to be given. A command was started, or there was no memory for
-- the order.
abbrev pub is_to_be_ordered : StepInput → Bool
is_to_be_ordered (Started max_bytes timeout_ticks silent_ticks set) = true
is_to_be_ordered (Ordered kept) = not kept
is_to_be_ordered i = false

-- a step was started that always runs, and a cancel was taken back for it
abbrev pub holds_one : StepInput → Bool
holds_one (Started max_bytes timeout_ticks silent_ticks set) = set
holds_one i = false

-- a cancel is taken back for such a step, or for one that the lane didn't start for it
abbrev pub takes_back : StepInput → Bool
takes_back (Refused e) = is_cancelled e
takes_back i = holds_one i

-- a tick is over, or the command has ended
abbrev pub is_tick : StepInput → Bool
is_tick (Ticked seen bytes) = true
is_tick i = false

abbrev pub is_next : StepInput → Bool
is_next (Next always) = true
is_next i = false

-- the next step comes, and is one that doesn't always run
abbrev pub is_plain_next : StepInput → Bool
is_plain_next (Next always) = not always
is_plain_next i = false

abbrev pub tells : StepActs → Bool
tells a = a.cancel.tells

abbrev pub interrupts : StepActs → Bool
interrupts a = a.cancel.interrupts

abbrev pub tells_limit : StepActs → Bool
tells_limit a = is_some a.limit

abbrev pub is_end : Polled → Bool
is_end (Ended result) = true
is_end said = false

abbrev pub says_end : StepActs → Bool
says_end a = is_end a.said

-- a step's end uses a cancel up
abbrev pub ends_by_cancel : StepActs → Bool
ends_by_cancel a = says_end a && a.cancel.uses_up

-- once there was memory for the order to interrupt a command, it isn't given again
abbrev pub InterruptedOnce : Type 0
InterruptedOnce =
    (s : StepView) (is : List StepInput) → s.cancels.interruption ≡ order.Ordered
    → list_any is_to_be_ordered is ≡ false → list_any interrupts (acts s is) ≡ false

-- At most one cancel is told, and one more for each that was taken back or used up.
abbrev pub CancelsToldOnce : Type 0
CancelsToldOnce =
    (s : StepView) (is : List StepInput)
    → count_by tells (acts s is) + one_if s.cancels.told
    ≤ count_by takes_back is + count_by ends_by_cancel (acts s is) + one_if (after s is).cancels.told

-- and each cancel was told that a start has taken back
abbrev pub CancelsAreTold : Type 0
CancelsAreTold =
    (s : StepView) (is : List StepInput)
    → count_by takes_back is + one_if (after s is).cancels.told
    ≤ count_by tells (acts s is) + one_if s.cancels.told

-- a cancel that is neither taken back nor used up is told at most once
abbrev pub OneCancelToldOnce : Type 0
OneCancelToldOnce =
    (s : StepView) (is : List StepInput) → list_any takes_back is ≡ false
    → list_any ends_by_cancel (acts s is) ≡ false → count_by tells (acts s is) ≤ 1

-- once a command has reached a limit, no limit is told until the next is started
abbrev pub LimitsToldOnce : Type 0
LimitsToldOnce =
    (s : StepView) (is : List StepInput) → is_some s.meter.reached ≡ true
    → list_any is_start is ≡ false → list_any tells_limit (acts s is) ≡ false

-- at most one limit is told, and one more for each command that is started
abbrev pub OneLimitACommand : Type 0
OneLimitACommand =
    (s : StepView) (is : List StepInput)
    → count_by tells_limit (acts s is) + one_if (is_some s.meter.reached)
    ≤ count_by is_start is + one_if (is_some (after s is).meter.reached)

-- A command that has reached a limit goes on for at most 999 ticks: by the next its step has ended.
abbrev pub LimitedStepsEnd : Type 0
LimitedStepsEnd =
    (s : StepView) (is : List StepInput) → is_some s.meter.reached ≡ true
    → list_any is_start is ≡ false → list_any says_end (acts s is) ≡ false
    → count_by is_tick is ≤ 999 - s.meter.ticks

-- so does one whose build was cancelled
abbrev pub CancelledStepsEnd : Type 0
CancelledStepsEnd =
    (s : StepView) (ticks : ℕ) (is : List StepInput) → s.meter.cancelled ≡ Some ticks
    → list_any is_start is ≡ false → list_any says_end (acts s is) ≡ false
    → count_by is_tick is ≤ 999 - ticks

-- at most 999 ticks follow the one in which a limit is told or a cancel is seen
abbrev pub StepsEndSoon : Type 0
StepsEndSoon =
    (s : StepView) (seen : Polled) (bytes : ℕ) (is : List StepInput)
    → (tells_limit (step_acts (Ticked seen bytes) s) || is_cancel seen) ≡ true
    → list_any is_start is ≡ false
    → list_any says_end (acts (step_after (Ticked seen bytes) s) is) ≡ false
    → count_by is_tick is ≤ 999

-- how many steps are left out
abbrev pub left_out : StepView → List StepInput → ℕ
left_out s [] = 0
left_out s (i ∷ is) = one_if (is_next i && (step_after i s).none) + left_out (step_after i s) is

-- a cancel that is held is kept by steps that always run, however many; they have their commands
abbrev pub HeldCancelWaits : Type 0
HeldCancelWaits =
    (s : StepView) (is : List StepInput) → s.cancels.held ≡ true → list_any is_plain_next is ≡ false
    → ((after s is).cancels.held ≡ true) × (left_out s is ≡ 0)

-- the next step that doesn't always run is left out for it, and no further one
abbrev pub HeldCancelLeavesOutOne : Type 0
HeldCancelLeavesOutOne =
    (s : StepView) → s.cancels.held ≡ true
    → ((step_after (Next false) s).none ≡ true)
    × ((step_after (Next false) s).cancels.held ≡ false)
    × ((step_after (Next false) (step_after (Next false) s)).none ≡ false)

-- no more steps are left out than cancels were held for one
abbrev pub NoMoreAreLeftOut : Type 0
NoMoreAreLeftOut =
    (s : StepView) (is : List StepInput)
    → left_out s is + one_if (after s is).cancels.held
    ≤ count_by holds_one is + one_if s.cancels.held
