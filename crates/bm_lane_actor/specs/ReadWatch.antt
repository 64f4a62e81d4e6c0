-- Whether a read of a lane's link may give something, of which nobody is told any more.
use Rattle.std.specs.Prelude.{Bool, true, false, not, Result, Ok, Err}
use Rattle.bm_link.specs.declared.fault.LinkFault.{LinkFault}
use Rattle.bm_link.specs.declared.turn.Turn.{Turn}
use Rattle.bm_link.specs.declared.turn.Turn.TheVariants.{Quiet}
use Rattle.bm_lane_actor.specs.declared.read_watch.LastRead.{LastRead}
use Rattle.bm_lane_actor.specs.declared.read_watch.LastRead.TheVariants.{MetNothing}

-- by its last read the connection had nothing more: what comes from then on is told
abbrev pub is_drained : LastRead → Bool
is_drained MetNothing = true
is_drained last = false

-- another turn follows, unless this one heard nothing and the connection has nothing more
abbrev pub goes_on : Result Turn LinkFault → Bool → Bool
goes_on (Ok Quiet) drained = not drained
goes_on answer drained = true
