-- How a lane is connected to its worker.
use Rattle.std.specs.Prelude.{Bool, true, false}
use Rattle.bm_lane_actor.specs.declared.connection_state.ConnectionState.{ConnectionState}
use Rattle.bm_lane_actor.specs.declared.connection_state.ConnectionState.TheVariants.{Up}

-- a lane's link stays just while the lane is up
abbrev pub keeps_link : ConnectionState → Bool
keeps_link Up = true
keeps_link _ = false
