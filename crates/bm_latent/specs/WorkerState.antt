-- What a build master knows of a worker, and what it does after each event.
use Rattle.std.specs.Prelude.{Bool, true, false, ◌&&◌, ◌||◌, not, if◌then◌else◌, List, [], ◌∷◌, Option}
use Rattle.std.specs.Option.{option_map_or, option_map}
use Rattle.bm_latent.specs.declared.event.LatentState.{LatentState}
use Rattle.bm_latent.specs.declared.event.LatentState.TheVariants.{Substantiating, Substantiated, Insubstantiating, Waiting, Held}
use Rattle.bm_latent.specs.declared.event.LatentEvent.{LatentEvent}
use Rattle.bm_latent.specs.declared.event.LatentEvent.TheVariants.{Want, Started as LatentStarted, Failed as LatentFailed, Attached as LatentAttached, Lost as LatentLost, IdleTick, Stopped as LatentStopped, Cut as LatentCut}
use Rattle.bm_latent.specs.declared.event.Act.{Act}
use Rattle.bm_latent.specs.declared.event.Act.TheVariants.{None as NoAct, Start as StartAct, Stop}
use Rattle.bm_latent.specs.Latent.{LatentView, standing_after, act_after}
use Rattle.bm_latent.specs.declared.worker_event.WorkerEvent.{WorkerEvent}
use Rattle.bm_latent.specs.declared.worker_event.WorkerEvent.TheVariants.{Wanted, Started, Failed, Attached, Cut, Lost, Stopped, Filled, Tick}
use Rattle.bm_latent.specs.declared.worker_event.ProcessAction.{ProcessAction}
use Rattle.bm_latent.specs.declared.worker_event.ProcessAction.TheVariants.{None as NoAction, Start, Shutdown}
use Rattle.bm_latent.specs.declared.worker_event.WorkerAction.{WorkerAction}

-- The machine of a latent worker, and whether a connection is attached to the lane. Also whether a
-- process that the master started runs, and whether the lane takes nothing more.
pub record WorkerView : Type 0 where
  pub latent : Option LatentView
  pub attached : Bool
  pub running : Bool
  pub full : Bool

-- a worker of which nothing was heard
abbrev pub newcomer : Option LatentView → WorkerView
newcomer latent = record { latent = latent; attached = false; running = false; full = false }

-- What the machine of a latent worker is told, in this order. Of a lane that is full no want is
-- told, and an idle tick only where the worker has no build. A worker that no process of ours is
-- behind has stopped once it is lost. The end of a process is nothing while its worker is attached.
abbrev pub told : WorkerView → WorkerEvent → List LatentEvent
told p Wanted = if p.full then [] else Want ∷ []
told p Started = LatentStarted ∷ []
told p Failed = LatentFailed ∷ []
told p Attached = LatentAttached ∷ []
told p Cut = LatentCut ∷ []
told p Lost = if p.running then LatentLost ∷ [] else LatentLost ∷ LatentStopped ∷ []
told p Stopped = if p.attached then [] else LatentStopped ∷ []
told p Filled = []
told p (Tick has_build) = if has_build then [] else IdleTick ∷ []

-- where the machine stands after these, and what it asked for at the last of them
abbrev pub machine_after : LatentView → List LatentEvent → LatentView × Act
machine_after w [] = (w, NoAct)
machine_after w (e ∷ []) = (standing_after w e, act_after w e)
machine_after w (d ∷ e ∷ es) = machine_after (standing_after w d) (e ∷ es)

-- where the machine stands after the event, if there is one
abbrev pub latent_after : WorkerView → WorkerEvent → Option LatentView
latent_after p event = option_map (λ w. (machine_after w (told p event)).0) p.latent

abbrev pub is_attached_after : Bool → WorkerEvent → Bool
is_attached_after before Attached = true
is_attached_after before Cut = false
is_attached_after before Lost = false
is_attached_after before event = before

-- the machine asks for a start
abbrev pub is_start : Act → Bool
is_start StartAct = true
is_start act = false

-- the machine asks for a stop
abbrev pub is_stop : Act → Bool
is_stop Stop = true
is_stop act = false

-- a process runs once it was started, and until it ended
abbrev pub is_running_after : Bool → WorkerEvent → Bool
is_running_after before Started = true
is_running_after before Failed = false
is_running_after before Stopped = false
is_running_after before event = before

abbrev pub is_full_after : Bool → WorkerEvent → Bool
is_full_after before Filled = true
is_full_after before event = before

-- what the machine asks for, nothing where there is none
abbrev pub act_of : WorkerView → WorkerEvent → Act
act_of p event = option_map_or (λ w. (machine_after w (told p event)).1) p.latent NoAct

-- what the master knows after the event
abbrev pub known_after : WorkerView → WorkerEvent → WorkerView
known_after p event =
    record {
      latent = latent_after p event;
      attached = is_attached_after p.attached event;
      running = is_running_after p.running event;
      full = is_full_after p.full event;
    }

abbrev pub is_substantiated : LatentState → Bool
is_substantiated Substantiated = true
is_substantiated state = false

-- the worker is to stop, and its process has not ended
abbrev pub is_stopping : LatentState → Bool
is_stopping Insubstantiating = true
is_stopping Waiting = true
is_stopping state = false

-- a worker takes builds while it is attached, a latent one while it is substantiated, none on a
-- full lane
abbrev pub is_ready : WorkerView → Bool
is_ready p = not p.full && option_map_or (λ w. is_substantiated w.state) p.latent p.attached

-- ticks count while a process runs and while a worker may idle
abbrev pub is_timed : WorkerView → Bool
is_timed p = p.running || option_map_or (λ w. is_substantiated w.state) p.latent false

-- the same of what is known of a worker
abbrev pub is_to_stop : WorkerView → Bool
is_to_stop p = option_map_or (λ w. is_stopping w.state) p.latent false

-- a worker is there while it is attached, and while a cut session of it may be resumed
abbrev pub is_held : LatentState → Bool
is_held Held = true
is_held state = false

abbrev pub is_there : WorkerView → Bool
is_there p = p.attached || option_map_or (λ w. is_held w.state) p.latent false

-- a worker that is to stop is told so where it is attached: when it is to stop, or once it is back
abbrev pub is_dismissed : WorkerView → WorkerEvent → Act → Bool
is_dismissed after Attached act = is_to_stop after
is_dismissed after event act = after.attached && is_stop act

abbrev pub process_action : WorkerView → WorkerEvent → Act → ProcessAction
process_action after event act =
    if is_start act then Start else (if is_dismissed after event act then Shutdown else NoAction)

-- its process was started, and its worker has not logged in
abbrev pub is_substantiating : LatentState → Bool
is_substantiating Substantiating = true
is_substantiating state = false

-- Builds that wait are given up where their worker will not come. Its process could not be started,
-- or ended before it logged in, or its lane takes nothing more.
abbrev pub gives_up : WorkerView → WorkerEvent → Bool
gives_up p Wanted = p.full
gives_up p Failed = true
gives_up p Filled = true
gives_up p Stopped = option_map_or (λ w. is_substantiating w.state) p.latent false
gives_up p event = false

-- what is to be done after the event
abbrev pub action_of : WorkerView → WorkerEvent → WorkerAction
action_of p event =
    record {
      ready = is_ready (known_after p event);
      process = process_action (known_after p event) event (act_of p event);
      gives_up = gives_up p event;
    }

-- it has a build, or one waits that it may still take: it doesn't idle
abbrev pub is_occupied : WorkerView → Bool → Bool → Bool
is_occupied p wanted has_build = has_build || (wanted && not p.full)

-- its process was started and no build waits for it: it is to be ended
abbrev pub is_needless : WorkerView → Bool → Bool
is_needless p wanted =
    not wanted
    && (p.running && option_map_or (λ w. is_substantiating w.state) p.latent false)
