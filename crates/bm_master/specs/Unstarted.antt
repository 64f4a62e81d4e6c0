-- A build that has its slot, and no thread yet.
use Rattle.std.specs.Prelude.{ℕ, Bool, false}
use Rattle.bm_lane.specs.Ends.{Watched}
use Rattle.bm_master.specs.BuildStarts.{StartView, untried}

-- its number, its worker's place and its viewer. How far the start of its thread has come, and
-- whether it was cancelled.
pub record UnstartedView : Type 0 where
  pub number : ℕ
  pub worker : ℕ
  pub viewer : Watched
  pub start : StartView
  pub cancelled : Bool

-- a build that was just given its slot
abbrev pub assigned : ℕ → ℕ → Watched → UnstartedView
assigned number worker viewer =
    record {
      number = number;
      worker = worker;
      viewer = viewer;
      start = untried;
      cancelled = false;
    }
