-- What a caller's lane heard, worked.
use Rattle.std.specs.Prelude.{◌≡◌, refl, true}
use Rattle.bm_session.specs.Trace.{was_taken}
use Rattle.callers.specs.LaneEvents.{said}

-- a lane takes these events
said_is_taken : was_taken said ≡ true
said_is_taken = refl
