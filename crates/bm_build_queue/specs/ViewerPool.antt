-- The viewers that no build has, by pools.
use Rattle.std.specs.Prelude.{◌≡◌, ℕ, ◌==◌, nat_lt, Bool, true, false, ◌&&◌, List, [], ◌∷◌, ◌++◌, length, slice_get, slice_set, Some}
use Rattle.std.specs.Option.{option_map_or}
use Rattle.bm_lane.specs.Ends.{Watched}

-- a pool: the number of its lane, how many viewers it has room for, and those that are here
pub record PoolState : Type 0 where
  pub lane : ℕ
  pub room : ℕ
  pub viewers : List Watched

-- the pool with one viewer more
abbrev pub with_viewer : PoolState → Watched → PoolState
with_viewer pool viewer =
    record { lane = pool.lane; room = pool.room; viewers = pool.viewers ++ viewer ∷ [] }

-- the pool takes this viewer: it is of its lane, and there is room
abbrev pub takes : PoolState → Watched → Bool
takes pool viewer = viewer.lane == pool.lane && nat_lt (length pool.viewers) pool.room

-- the pool at the place of the viewer's lane takes it
abbrev pub is_taken_back : List PoolState → Watched → Bool
is_taken_back pools viewer =
    option_map_or (λ pool. takes pool viewer) (slice_get pools viewer.lane) false

-- the viewer was taken from the pool at this place, which takes it back, and the others are as
-- before
pub record IsTaken (old new : List PoolState) (place : ℕ) (viewer : Watched) : Type 0 where
  pub left : PoolState
  pub there : slice_get old place ≡ Some (with_viewer left viewer)
  pub rest : new ≡ slice_set old place left
  pub room : takes left viewer ≡ true

-- the viewer was given to the pool at this place, and the others are as before
pub record IsGiven (old new : List PoolState) (place : ℕ) (viewer : Watched) : Type 0 where
  pub before : PoolState
  pub there : slice_get old place ≡ Some before
  pub rest : new ≡ slice_set old place (with_viewer before viewer)
