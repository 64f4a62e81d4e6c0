-- The builds that hold their slots although they have their results.
use Rattle.std.specs.Prelude.{◌≡◌, ◌⊎◌, ℕ, ◌==◌, Bool, true, false, not, nat_lt, [], ◌∷◌, ◌++◌, List, length, slice_get, slice_set, Option, Some, None}
use Rattle.bm_build_queue.specs.HeldBuilds.{HeldState}
use Rattle.bm_master.specs.declared.held_builds.StartedCommand.{StartedCommand}

-- The commands that builds have started which run. The builds that have their results, each in a
-- place of its own.
pub record HeldView : Type 0 where
  pub started : List StartedCommand
  pub places : List (Option HeldState)

-- no build, and no command
abbrev pub no_held : HeldView
no_held = record { started = []; places = [] }

-- there is no build in this place
abbrev pub is_vacant : Option HeldState → Bool
is_vacant (Some build) = false
is_vacant None = true

-- the build of this number is in this place
abbrev pub is_of : ℕ → Option HeldState → Bool
is_of number (Some build) = build.number == number
is_of number None = false

-- a build of which no command was open at the last look
abbrev pub is_free : Option HeldState → Bool
is_free (Some build) = not (nat_lt build.ended (length build.commands))
is_free None = false

-- The command is behind those that were started before it. Where memory is wanting it isn't noted.
abbrev pub IsNotedIn : HeldView → HeldView → StartedCommand → Type 0
IsNotedIn old new started =
    (new ≡ old) ⊎ (new ≡ record old { started = old.started ++ started ∷ [] })

-- The build was in this place, and was taken out of it. All else is as before.
pub record IsTakenAt (old new : HeldView) (place : ℕ) (build : HeldState) : Type 0 where
  pub there : slice_get old.places place ≡ Some (Some build)
  pub rest : new ≡ record { started = old.started; places = slice_set old.places place None }

-- The build was taken out of the place in which it was.
abbrev pub IsTakenOut : HeldView → HeldView → HeldState → Type 0
IsTakenOut old new build = (place : ℕ) × IsTakenAt old new place build
