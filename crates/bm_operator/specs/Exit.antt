-- How a build master ends.
use Rattle.std.specs.Prelude.{ℕ, Bool, true, false, ◌&&◌, not, if◌then◌else◌, List}
use Rattle.std.specs.List.{list_all}
use Rattle.bm_session.specs.declared.results.Results.{Results}
use Rattle.bm_session.specs.declared.results.Results.TheVariants.{Success, Warnings}

-- a result that nobody has to look at
abbrev pub is_good : Results → Bool
is_good Success = true
is_good Warnings = true
is_good result = false

-- 0 where the master did not fail and each result is good
abbrev pub exit_status : List Results → Bool → ℕ
exit_status results failed = if not failed && list_all is_good results then 0 else 1
