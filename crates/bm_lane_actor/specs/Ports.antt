-- What a build's port to a lane is.
use mathlib.Core.List.{IsPrefix}
use Rattle.std.specs.Prelude.{◌≡◌, ◌⊎◌, ℕ, ◌+◌, ◌-◌, ◌/◌, ◌^◌, min, Bool, true, false, nat_lt, List, [], ◌∷◌, ◌++◌, if◌then◌else◌, Option, Some, None, Result, Ok, Err}
use Rattle.std.specs.Time.{FitsClock, instant_nanos}
use Rattle.std.specs.declared.time.Instant.{Instant}
use Rattle.bm_session.specs.declared.results.Results.{Results}
use Rattle.bm_session.specs.declared.results.Results.TheVariants.{Cancelled}
use Rattle.bm_operator.specs.declared.reasons.StartRefusal.{StartRefusal}
use Rattle.bm_operator.specs.declared.reasons.StartRefusal.TheVariants as why
use Rattle.bm_lane_actor.specs.declared.start_progress.StartStage.{StartStage}
use Rattle.bm_lane_actor.specs.declared.start_progress.StartStage.TheVariants as stage
use Rattle.bm_lane_actor.specs.declared.step_machine.StepInput.{StepInput}
use Rattle.bm_lane_actor.specs.declared.step_machine.StepInput.TheVariants as step
use Rattle.bm_lane_actor.specs.declared.step_machine.StepActs.{StepActs}
use Rattle.bm_store.specs.declared.chunk.LogState.{LogState}
use Rattle.bm_store.specs.declared.chunk.ViewRefusal.{ViewRefusal}
use Rattle.bm_runner.specs.declared.port.Polled.{Polled}
use Rattle.bm_runner.specs.declared.port.Polled.TheVariants.{Running, Cancel, Ended}
use Rattle.bm_runner.specs.declared.port.Told.{Told}
use Rattle.bm_runner.specs.Port.{first_entry}
use Rattle.bm_lines.specs.Names.{stdio}
use Rattle.bm_lane.specs.Ends.{Watched}
use Rattle.bm_lane.specs.Looks.{GivesState}
use Rattle.bm_lane_actor.specs.declared.cancel_policy.CancelInput.TheVariants as input
use Rattle.bm_lane_actor.specs.CancelPolicy.{CancelView, cancel_after}
use Rattle.bm_lane_actor.specs.StartProgress.{refused_in, settled}
use Rattle.bm_lane_actor.specs.StepMachine.{StepView, is_cancelled, step_acts, step_after}
use Rattle.bm_lane_actor.specs.StepMeter.{MeterView}

-- What its viewer has seen of the lane, and whether its build's flag was set when it was read last.
-- How far the start of the last step has come, and what is done with that step. Then an entry for
-- each command that it started, and whether a start was refused.
pub record PortView : Type 0 where
  pub viewer : Watched
  pub cancelled : Bool
  pub stage : StartStage
  pub step : StepView
  pub told : List Told
  pub refused : Bool

-- how a command does that has not ended
abbrev pub running : Bool → Polled
running cancelled = if cancelled then Cancel else Running

abbrev pub polled_as : Bool → Option Results → Polled
polled_as cancelled (Some result) = Ended result
polled_as cancelled None = running cancelled

-- how a command does, by the state of its log: one whose log isn't seen runs
abbrev pub polled : Bool → Result LogState ViewRefusal → Polled
polled cancelled (Ok state) = polled_as cancelled state.ended
polled cancelled (Err e) = running cancelled

-- a tick that begins so many milliseconds late is a short one, and no tick is left out
abbrev pub keeps_pace : ℕ → Bool
keeps_pace behind_ms = nat_lt behind_ms 1000

-- a tick begins at the end of the last one, or now
abbrev pub begins_at : ℕ → ℕ → ℕ
begins_at end now = if keeps_pace (min ((now - end) / 1_000_000) (2 ^ 64 - 1)) then end else now

-- When the tick begins behind the one that began then: the first begins now. A clock tells no time
-- beyond its range.
abbrev pub TickAfter : Option Instant → Instant → Instant → Type 0
TickAfter None now t = t ≡ now
TickAfter (Some last) now t =
    FitsClock (instant_nanos last + 10_000_000)
    → instant_nanos t ≡ begins_at (instant_nanos last + 10_000_000) (instant_nanos now)

-- the number of no command
abbrev pub no_command : ℕ
no_command = 2 ^ 64 - 1

-- A command of a step with these limits was started and has its entry; or none was. The first
-- answer that wasn't to try it later has settled it. A step has no command where a cancel kept it
-- from its start.
abbrev pub Begins : PortView → MeterView → Result ℕ StartRefusal → PortView → Type 0
Begins old limits (Ok k) new =
    (new.told ≡ old.told ++ first_entry k ∷ []) × (new.refused ≡ old.refused)
    × (new.viewer ≡ old.viewer) × (new.step.meter ≡ limits) × (new.step.none ≡ false)
    × (new.cancelled ≡ old.cancelled) × (new.stage ≡ settled (Ok k))
Begins old limits (Err e) new =
    (new.told ≡ old.told) × (new.refused ≡ old.refused)
    × (new.viewer ≡ old.viewer) × (new.step.meter ≡ old.step.meter)
    × (new.step.none ≡ is_cancelled e) × (new.cancelled ≡ old.cancelled)
    × (refused_in new.stage ≡ Some e)

-- A step isn't started for this cause. Where its build was cancelled it is told as no command,
-- which has ended so. Else, or without memory for that, its start is refused.
abbrev pub Unstarts : PortView → StartRefusal → Bool → PortView → Type 0
Unstarts old e true new =
    (e ≡ why.Cancelled) × (new.told ≡ old.told ++ first_entry no_command ∷ [])
    × (new.refused ≡ old.refused) × (new.stage ≡ old.stage) × (new.step ≡ old.step)
Unstarts old e false new =
    (new.told ≡ old.told) × (new.refused ≡ true) × (new.stage ≡ old.stage)

-- What a build is told of a start, by what it came to: the lane's own number. No command is told
-- only where its build was cancelled.
abbrev pub StartsAs : PortView → ℕ → Type 0
StartsAs p k =
    ((p.stage ≡ stage.Started k) × (p.step.none ≡ false))
    ⊎ ((k ≡ no_command) × (refused_in p.stage ≡ Some why.Cancelled) × (p.step.none ≡ true))

-- the viewer looks for the state of the log of command k, and the flag is read
abbrev pub Looks : PortView → ℕ → Polled → PortView → Type 0
Looks old k said new =
    (state : Result LogState ViewRefusal)
    × GivesState old.viewer new.viewer k stdio state
    × (said ≡ polled new.cancelled state) × (new.step ≡ old.step) × (new.told ≡ old.told)
    × (new.refused ≡ old.refused)

abbrev pub with_step : PortView → StepView → PortView
with_step p s =
    record {
      viewer = p.viewer;
      cancelled = p.cancelled;
      stage = p.stage;
      step = s;
      told = p.told;
      refused = p.refused;
    }

-- the machine hears whether an order to interrupt the command was kept, where it was given
abbrev pub told_of_order : Bool → Bool → CancelView → CancelView
told_of_order given kept c = if given then cancel_after (input.Ordered kept) c else c

-- An input comes to the machine of its steps, and what it answers is carried out. Whether the
-- lane's actor keeps an order to interrupt a command no contract sees.
abbrev pub Orders : PortView → StepInput → StepActs → PortView → Type 0
Orders old i acts new =
    (kept : Bool)
    × (acts ≡ step_acts i old.step)
    × (new ≡ with_step old (record (step_after i old.step) {
      cancels = told_of_order acts.cancel.interrupts kept (step_after i old.step).cancels;
    }))

-- How a command does. The viewer looks for the state of its log. The machine hears that, and how
-- many bytes the command's updates have carried; what it answers is carried out.
abbrev pub Sees : PortView → ℕ → StepActs → PortView → Type 0
Sees old k acts new =
    (seen : Polled) × (bytes : ℕ) × (between : PortView)
    × Looks old k seen between × Orders between (step.Ticked seen bytes) acts new

-- the viewer has looked, and may have seen more; what is done about cancels may have changed
abbrev pub Waits : PortView → PortView → Type 0
Waits old new =
    (new.viewer.lane ≡ old.viewer.lane) × IsPrefix old.viewer.seen new.viewer.seen
    × (new.step.meter ≡ old.step.meter) × (new.step.none ≡ old.step.none)
    × (new.told ≡ old.told) × (new.refused ≡ old.refused)

-- What a build is told of its command is what the machine of its steps answers. The flag and the
-- log were read right before. It has waited for a tick or for that command's end. A step without a
-- command was cancelled.
abbrev pub Polls : PortView → ℕ → Polled → PortView → Type 0
Polls old k said new =
    ((old.step.none ≡ true) × (said ≡ Ended Cancelled) × (new.step ≡ old.step))
    ⊎ ((old.step.none ≡ false)
    × ((waited : PortView) × (seen : PortView) × (acts : StepActs)
    × Waits old waited × Sees waited k acts seen
    × (said ≡ acts.said) × (new.step ≡ seen.step) × (new.cancelled ≡ seen.cancelled)))
