-- What becomes of the count of refused connections as they are told.
use Rattle.std.specs.Prelude.{◌≡◌, ℕ, ◌+◌, ◌<◌, ◌==◌, Bool, true, false, List, Option, Some, None, ◌⊎◌, if◌then◌else◌}
use Rattle.bm_operator.specs.RateLimit.{Allowance}
use Rattle.bm_operator.specs.RefusalLimit.{Refusals, with_name}

-- another count of those that were not told
abbrev pub with_left_out : ℕ → Refusals → Refusals
with_left_out n r =
    record {
      limit = record {
        most = r.limit.most;
        second = r.limit.second;
        allowed = r.limit.allowed;
        left_out = n;
      };
      names = r.names;
    }

-- the count of those before this second was taken
abbrev pub taken_before : ℕ → Refusals → Refusals
taken_before second r =
    with_left_out (if r.limit.second == second then r.limit.left_out else 0) r

-- the last one was let through, or is counted
abbrev pub IsHeard : Allowance → Type 0
IsHeard l = 0 < l.allowed + l.left_out

-- a name joins those that were told, where there is memory for it
abbrev pub Notes : Bool → Option (List ℕ) → Refusals → Refusals → Type 0
Notes true (Some name) old new = (new ≡ with_name name old) ⊎ (new ≡ old)
Notes true None old new = new ≡ old
Notes false name old new = new ≡ old

-- where this is a refusal it is heard, and else nothing changes
abbrev pub HearsIf : Bool → Refusals → Refusals → Type 0
HearsIf true old new = IsHeard new.limit
HearsIf false old new = new ≡ old
