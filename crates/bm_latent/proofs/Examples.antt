-- Worked runs of a latent worker, as closed examples of the table.
use Rattle.std.proofs.Common.{◌≡◌, ℕ, List, [], ◌∷◌, refl}
use Rattle.bm_latent.specs.Latent.{LatentView, standing_after, act_after}
use Rattle.bm_latent.specs.declared.event.LatentState.TheVariants.{Not}
use Rattle.bm_latent.specs.declared.event.LatentEvent.{LatentEvent}
use Rattle.bm_latent.specs.declared.event.LatentEvent.TheVariants.{Want, Started, Attached, Lost, IdleTick, Stopped, Cut}
use Rattle.bm_latent.specs.declared.event.Act.{Act}
use Rattle.bm_latent.specs.declared.event.Act.TheVariants.{None, Start, Give, Stop, Hold}

-- what is to be done after each of the events
abbrev acts : LatentView → List LatentEvent → List Act
acts w [] = []
acts w (event ∷ events) = act_after w event ∷ acts (standing_after w event) events

-- a new worker with this limit
abbrev fresh : ℕ → LatentView
fresh limit = record { state = Not; idle = 0; limit = limit }

-- a loss stops the worker, a want that comes meanwhile starts it again, and the third idle tick
-- stops it
idle_worker_is_stopped_at_its_limit :
    acts (fresh 3)
    (Want ∷ Want ∷ Started ∷ Attached ∷ Lost ∷ Want ∷ Want ∷ Stopped ∷ Attached ∷ IdleTick ∷ IdleTick ∷ IdleTick ∷ [])
    ≡ Start ∷ None ∷ None ∷ Give ∷ Stop ∷ None ∷ None ∷ Start ∷ Give ∷ None ∷ None ∷ Stop ∷ []
idle_worker_is_stopped_at_its_limit = refl

-- a cut holds the worker, a resumption gives it again, and a loss stops it
cut_worker_is_held_until_resumed_or_lost :
    acts (fresh 1) (Want ∷ Attached ∷ Cut ∷ Want ∷ Attached ∷ Cut ∷ Lost ∷ Stopped ∷ [])
    ≡ Start ∷ Give ∷ Hold ∷ None ∷ Give ∷ Hold ∷ Stop ∷ None ∷ []
cut_worker_is_held_until_resumed_or_lost = refl
