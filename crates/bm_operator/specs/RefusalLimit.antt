-- Which refused connections are told one by one.
use Rattle.std.specs.Prelude.{ℕ, ◌==◌, Bool, false, ◌&&◌, ◌++◌, ◌∷◌, [], List, bytes_eq, not, Option, Some, None, if◌then◌else◌}
use Rattle.std.specs.List.{list_any}
use Rattle.bm_operator.specs.RateLimit.{Allowance, allowance, is_allowed, left_out_after, limit_after}

-- how many are told, and the names of those that were told in the second of the last one
pub record Refusals : Type 0 where
  pub limit : Allowance
  pub names : List (List ℕ)

-- none was refused
abbrev pub no_refusals : ℕ → Refusals
no_refusals most = record { limit = allowance most; names = [] }

-- the names that were told in this second
abbrev pub names_in : Refusals → ℕ → List (List ℕ)
names_in r second = if r.limit.second == second then r.names else []

-- a login of this name was told already
abbrev pub has_told : Option (List ℕ) → List (List ℕ) → Bool
has_told None names = false
has_told (Some name) names = list_any (λ told. bytes_eq told name) names

-- it is told where few were in its second, and none of its name
abbrev pub is_told : Refusals → ℕ → Option (List ℕ) → Bool
is_told r second name =
    not (has_told name (names_in r second)) && is_allowed r.limit second

-- what follows: it is told, or counted
abbrev pub refusals_after : Refusals → ℕ → Option (List ℕ) → Refusals
refusals_after r second name =
    record {
      limit =
          if has_told name (names_in r second)
          then left_out_after r.limit second
          else limit_after r.limit second;
      names = names_in r second;
    }

-- the name of one that was told
abbrev pub with_name : List ℕ → Refusals → Refusals
with_name name r = record r { names = r.names ++ name ∷ [] }
