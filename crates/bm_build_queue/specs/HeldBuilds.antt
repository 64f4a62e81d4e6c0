-- A build that has its result while a command of it may be open.
use Rattle.std.specs.Prelude.{◌≡◌, ℕ, ◌+◌, Bool, true, false, if◌then◌else◌, List, Option, Some, None, Result, Ok, Err}
use Rattle.std.specs.Option.{is_some}
use Rattle.bm_lines.specs.Names.{stdio}
use Rattle.bm_store.specs.declared.chunk.LogState.{LogState}
use Rattle.bm_store.specs.declared.chunk.ViewRefusal.{ViewRefusal}
use Rattle.bm_lane.specs.Ends.{Watched}
use Rattle.bm_lane.specs.Looks.{GivesState}

-- its number, what its viewer has seen, and the commands that it started. How many of these, in
-- their order, were seen to have ended.
pub record HeldState : Type 0 where
  pub number : ℕ
  pub viewer : Watched
  pub commands : List ℕ
  pub ended : ℕ

-- a command has ended whose log is seen so; one whose log isn't seen may be open
abbrev pub has_ended : Result LogState ViewRefusal → Bool
has_ended (Ok state) = is_some state.ended
has_ended (Err why) = false

-- the viewer looked at the log of command k, which counts as ended where it has
abbrev pub LooksAt : HeldState → ℕ → Bool → HeldState → Type 0
LooksAt old k ended new =
    (state : Result LogState ViewRefusal) × GivesState old.viewer new.viewer k stdio state
    × (ended ≡ has_ended state) × (new.ended ≡ (if ended then old.ended + 1 else old.ended))
    × (new.number ≡ old.number) × (new.commands ≡ old.commands)
