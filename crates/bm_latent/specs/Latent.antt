-- A latent worker as a table of states and events.
use Rattle.std.specs.Prelude.{ℕ, ◌+◌, Bool, true, nat_le}
use Rattle.bm_latent.specs.declared.event.LatentState.{LatentState}
use Rattle.bm_latent.specs.declared.event.LatentState.TheVariants.{Not, Substantiating, Substantiated, Insubstantiating, Waiting, Held}
use Rattle.bm_latent.specs.declared.event.LatentEvent.{LatentEvent}
use Rattle.bm_latent.specs.declared.event.LatentEvent.TheVariants.{Want, Failed, Attached, Lost, IdleTick, Stopped, Cut}
use Rattle.bm_latent.specs.declared.event.Act.{Act}
use Rattle.bm_latent.specs.declared.event.Act.TheVariants.{None, Start, Give, Stop, Hold}

-- the state, how many idle ticks were counted, and how many stop the worker
pub record LatentView : Type 0 where
  pub state : LatentState
  pub idle : ℕ
  pub limit : ℕ

-- the table: the state that follows, and what is to be done; `last` says that the limit is reached
-- by one more idle tick
abbrev pub row : LatentState → LatentEvent → Bool → LatentState × Act
row Not Want last = (Substantiating, Start)
row Not Attached last = (Insubstantiating, Stop)
row Substantiating Failed last = (Not, None)
row Substantiating Attached last = (Substantiated, Give)
row Substantiating Stopped last = (Not, None)
row Substantiated Want last = (Substantiated, Give)
row Substantiated Lost last = (Insubstantiating, Stop)
row Substantiated IdleTick true = (Insubstantiating, Stop)
row Substantiated Stopped last = (Not, None)
row Substantiated Cut last = (Held, Hold)
row Insubstantiating Want last = (Waiting, None)
row Insubstantiating Stopped last = (Not, None)
row Waiting Stopped last = (Substantiating, Start)
row Held Attached last = (Substantiated, Give)
row Held Lost last = (Insubstantiating, Stop)
row Held Stopped last = (Not, None)
-- in each other cell the state stays, and nothing is to be done
row state event last = (state, None)

-- the idle ticks counted: afresh with each want and on each entry to Substantiated
abbrev pub idle_after : LatentState → LatentEvent → ℕ → ℕ
idle_after state Want idle = 0
idle_after Substantiating Attached idle = 0
idle_after Held Attached idle = 0
idle_after Substantiated IdleTick idle = idle + 1
idle_after state event idle = idle

-- the row that holds where the worker stands
abbrev pub row_at : LatentView → LatentEvent → LatentState × Act
row_at w event = row w.state event (nat_le w.limit (w.idle + 1))

-- where the worker stands after the event
abbrev pub standing_after : LatentView → LatentEvent → LatentView
standing_after w event =
    record { state = (row_at w event).0; idle = idle_after w.state event w.idle; limit = w.limit }

-- what is to be done after the event
abbrev pub act_after : LatentView → LatentEvent → Act
act_after w event = (row_at w event).1
