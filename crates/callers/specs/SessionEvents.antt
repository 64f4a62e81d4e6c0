-- Requests of a worker, as few clauses need them.
use Rattle.std.specs.Prelude.{ℕ, false, [], None}
use Rattle.bm_session.specs.declared.event.Event.{Event}
use Rattle.bm_session.specs.declared.event.Event.TheVariants.{In}
use Rattle.bm_session.specs.declared.event.Body.TheVariants.{Update, Complete}

-- an update n of command k, of no lines
abbrev pub update : ℕ → ℕ → Event
update n k = In n (Update k [] None)

-- a complete n of command k, without a fault
abbrev pub complete : ℕ → ℕ → Event
complete n k = In n (Complete k false)
