-- What a build does about cancels of it.
use Rattle.std.specs.Prelude.{Bool, true, false, ◌&&◌, ◌||◌, not, if◌then◌else◌}
use Rattle.bm_lane_actor.specs.declared.cancel_policy.CancelInput.{CancelInput}
use Rattle.bm_lane_actor.specs.declared.cancel_policy.CancelInput.TheVariants.{Started, LeftOut, Refused, Runs, Asked, Ordered, Ended}
use Rattle.bm_lane_actor.specs.declared.cancel_policy.CancelActs.{CancelActs}
use Rattle.bm_lane_actor.specs.declared.cancel_policy.Interruption.{Interruption}
use Rattle.bm_lane_actor.specs.declared.cancel_policy.Interruption.TheVariants as order

-- Whether a cancel came before a step that always runs, and waits for one that doesn't. Whether the
-- cancel that the build's flag holds was told. How far the interruption of the command has come.
pub record CancelView : Type 0 where
  pub held : Bool
  pub told : Bool
  pub interruption : Interruption

abbrev pub uncancelled : CancelView
uncancelled = record { held = false; told = false; interruption = order.NotWanted }

abbrev pub does_nothing : CancelActs
does_nothing = record { tells = false; interrupts = false; uses_up = false }

-- a step isn't started, since its build was cancelled before
abbrev pub is_left_out : Bool → Bool → Bool
is_left_out cancelled always_run = cancelled && not always_run

-- the order to interrupt a command is given once; without memory for it, again
abbrev pub is_to_order : Bool → Interruption → Bool
is_to_order wanted order.NotWanted = wanted
is_to_order wanted order.Wanted = true
is_to_order wanted order.Ordered = false

abbrev pub ordered : Bool → Interruption
ordered kept = if kept then order.Ordered else order.Wanted

-- what is to be done after an input: a cancel is told once, and used up by the step that it ends
abbrev pub cancel_acts : CancelInput → CancelView → CancelActs
cancel_acts (Started set) c = record does_nothing { tells = set && not c.told }
cancel_acts LeftOut c = does_nothing
cancel_acts Refused c = record { tells = not c.told; interrupts = false; uses_up = true }
cancel_acts (Runs cancelled over) c =
    record {
      tells = cancelled && not c.told;
      interrupts = is_to_order (cancelled || over) c.interruption;
      uses_up = false;
    }
cancel_acts Asked c = record does_nothing { interrupts = is_to_order true c.interruption }
cancel_acts (Ordered kept) c = does_nothing
cancel_acts (Ended by_cancel) c = record does_nothing { uses_up = by_cancel }

-- where the build then stands
abbrev pub cancel_after : CancelInput → CancelView → CancelView
cancel_after (Started set) c =
    record {
      held = c.held || set;
      told = c.told && not set;
      interruption = order.NotWanted;
    }
cancel_after LeftOut c = record c { held = false }
cancel_after Refused c = record c { told = false }
cancel_after (Runs cancelled over) c = record c { told = c.told || cancelled }
cancel_after Asked c = c
cancel_after (Ordered kept) c = record c { interruption = ordered kept }
cancel_after (Ended by_cancel) c = record c { told = c.told && not by_cancel }
