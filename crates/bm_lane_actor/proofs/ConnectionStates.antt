-- A lane keeps its link just while it is up.
use Rattle.std.proofs.Common.{◌≡◌, refl, Bool, true, false, if◌then◌else◌}
use Rattle.bm_session.specs.Trace.{Trace, is_up, is_cut}
use Rattle.bm_lane_actor.specs.declared.connection_state.ConnectionState.TheVariants.{Up, Cut, Down}
use Rattle.bm_lane_actor.specs.ConnectionState.{keeps_link}
use Rattle.bm_lane_actor.specs.LaneEvents.{connection_of}

pub keeps_link_while_up : (t : Trace) → keeps_link (connection_of t) ≡ is_up t
keeps_link_while_up t = go (is_up t) (is_cut t)
  where
    go : (up cut : Bool) → keeps_link (if up then Up else (if cut then Cut else Down)) ≡ up
    go true cut = refl
    go false true = refl
    go false false = refl
