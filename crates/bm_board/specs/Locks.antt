-- The locks that a build names, and when a lock may be had (Buildbot manual, "Interlocks").
use Rattle.std.specs.Prelude.{ℕ, Bool, true, false, not, ◌&&◌, ◌==◌, nat_lt, List, [], ◌∷◌}
use Rattle.std.specs.List.{list_any, list_all}
use Rattle.bm_board.specs.declared.plan.Mode.{Mode}
use Rattle.bm_board.specs.declared.plan.Mode.TheVariants.{Counting, Exclusive}
use Rattle.bm_board.specs.declared.plan.LockUse.{LockUse}

abbrev pub is_mode : Mode → Mode → Bool
is_mode Counting Counting = true
is_mode Counting Exclusive = false
is_mode Exclusive Counting = false
is_mode Exclusive Exclusive = true

-- this use is of the lock, in the mode
abbrev pub is_use : Mode → ℕ → LockUse → Bool
is_use mode lock u = u.lock == lock && is_mode u.mode mode

-- no lock is named twice
abbrev pub are_distinct : List LockUse → Bool
are_distinct [] = true
are_distinct (u ∷ us) = not (list_any (λ other. other.lock == u.lock) us) && are_distinct us

-- each lock is one of the first `count`, and none is named twice
abbrev pub are_good : ℕ → List LockUse → Bool
are_good count uses = list_all (λ u. nat_lt u.lock count) uses && are_distinct uses

-- a lock with this maximum, held by so many in each mode, may be had in the mode
abbrev pub may_have : Mode → ℕ → ℕ → ℕ → Bool
may_have Counting maximum counting exclusive = exclusive == 0 && nat_lt counting maximum
may_have Exclusive maximum counting exclusive = exclusive == 0 && counting == 0
