-- For how long the thread of a build is tried to be started, and what is told of that.
use Rattle.std.specs.Prelude.{ℕ, Bool, false, if◌then◌else◌}
use Rattle.bm_latent.specs.StartTries.{is_given_up}
use Rattle.bm_master.specs.declared.build_start.StartFate.{StartFate}
use Rattle.bm_master.specs.declared.build_start.StartFate.TheVariants as start

-- for how many ticks it was tried, and whether it was told that the build waits for its thread
pub record StartView : Type 0 where
  pub tries : ℕ
  pub told : Bool

abbrev pub untried : StartView
untried = record { tries = 0; told = false }

-- a build that is cancelled ends at once, another one once it was tried for a minute
abbrev pub fate : StartView → Bool → StartFate
fate s cancelled =
    if cancelled
    then start.Cancelled
    else (if is_given_up s.tries false then start.Failed else start.Try)
