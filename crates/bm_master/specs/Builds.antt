-- The builds of a master, and what comes of them.
use Rattle.std.specs.Prelude.{◌≡◌, ◌<◌, ℕ, ◌==◌, Bool, true, false, ◌||◌, if◌then◌else◌, Option, Some, None}
use Rattle.std.specs.Option.{is_some}
use Rattle.bm_build_queue.specs.BuildQueue.{IsStarted, QueueState, can_start}
use Rattle.bm_build_queue.specs.ViewerPool.{IsTaken}
use Rattle.bm_master.specs.BuildStarts.{StartView}
use Rattle.bm_master.specs.Held.{HeldView, no_held}
use Rattle.bm_master.specs.Unstarted.{UnstartedView, assigned}

-- The queue, and the build that has its slot and whose thread could not be started yet. The builds
-- that hold their slots, and whether a build could not be run.
pub record BuildsView : Type 0 where
  pub queue : QueueState
  pub unstarted : Option UnstartedView
  pub held : HeldView
  pub failed : Bool

-- the builds of a queue of which none was started
abbrev pub opened : QueueState → BuildsView
opened queue = record { queue = queue; unstarted = None; held = no_held; failed = false }

-- the start of a build is to be tried again
abbrev pub is_short : BuildsView → Bool
is_short b = b.queue.is_short || is_some b.unstarted

-- An unstarted build is to be cancelled: it notes that where the number is its own.
abbrev pub noted : ℕ → UnstartedView → UnstartedView
noted number build =
    if build.number == number then record build { cancelled = true } else build

-- A build was started that waited. Its worker was ready and had a free slot, and its locks could be
-- had. It got a viewer of its worker's lane.
pub record IsGivenSlot (old new : QueueState) (build : UnstartedView) : Type 0 where
  pub started : IsStarted old.board new.board build.number build.worker
  pub viewer : IsTaken old.pools new.pools build.worker build.viewer
  pub lane : build.viewer.lane ≡ build.worker
  pub first : (k : ℕ) → k < build.number → can_start old k ≡ true → new.is_short ≡ true
  pub fresh : build ≡ assigned build.number build.worker build.viewer

-- The build that is to be started now: one whose thread was refused comes before all others.
abbrev pub IsNextIn : Option UnstartedView → QueueState → QueueState → UnstartedView → Type 0
IsNextIn (Some again) old new build = build ≡ again
IsNextIn None old new build = IsGivenSlot old new build

abbrev pub IsNext : BuildsView → BuildsView → UnstartedView → Type 0
IsNext old new build = IsNextIn old.unstarted old.queue new.queue build
