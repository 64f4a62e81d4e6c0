-- Who has which end of a lane, once the ends are dealt; and a lane's viewers, once they are back.
use Rattle.std.specs.Prelude.{◌≡◌, ◌-◌, List, [], ◌∷◌, ◌++◌, length, map, take, Option, Some, None, slice_get, vec_capacity}
use Rattle.bm_lane.specs.Ends.{Watched}
use Rattle.bm_lane.specs.declared.blank.Ends.{Ends}
use Rattle.bm_build_queue.specs.ViewerPool.{PoolState}
use Rattle.bm_lanes.specs.declared.dealt_lanes.DealtLanes.{DealtLanes}

module _ {Y W : Type 0} where
  -- the builds have all viewers of a lane but its last
  abbrev pub pool_of : Ends Y W → PoolState
  pool_of e = record {
    lane = e.reader.lane;
    room = vec_capacity e.viewers;
    viewers = take (length e.viewers.items - 1) e.viewers.items;
  }

  -- the web has the last
  abbrev pub web_viewer_of : Ends Y W → Option Watched
  web_viewer_of e = slice_get e.viewers.items (length e.viewers.items - 1)

module _ {Y W S : Type 0} where
  -- the lanes have these ends, each at its place; a writer's end lies under a lock, so nothing more
  -- is known of it
  pub record AreDealt (all : List (Ends Y W)) (lanes : DealtLanes Y W S) : Type 0 where
    pub readers : map (λ s. s.lane) lanes.states.items ≡ map (λ e. e.reader) all
    pub writers : length lanes.writers.items ≡ length all
    pub pools : lanes.pools.items ≡ map pool_of all
    pub web_viewers : map Some lanes.web_viewers.items ≡ map web_viewer_of all

  -- where the old lanes have some ends, the new ones have these as well
  abbrev pub DealsToo : Ends Y W → DealtLanes Y W S → DealtLanes Y W S → Type 0
  DealsToo e old new = (all : List (Ends Y W)) → AreDealt all old → AreDealt (all ++ e ∷ []) new

-- the viewers of a lane: those of its pool, and then the web's
abbrev pub given_back : Option PoolState → Option Watched → Option (List Watched)
given_back (Some pool) (Some viewer) = Some (pool.viewers ++ viewer ∷ [])
given_back pool viewer = None
