-- How many hold each lock, before and after some of the uses that a build names.
use Rattle.std.proofs.Common.{◌≡◌, ℕ, ◌+◌, ◌<◌, ◌==◌, true, cond, List, length, slice_index, take, get_or, refl, arith}
use Rattle.std.specs.List.{list_any}
use Rattle.std.proofs.lemmas.Bool.{and_from, eq-eqb, cond-false}
use Rattle.bm_board.specs.declared.plan.Mode.{Mode}
use Rattle.bm_board.specs.declared.plan.LockUse.{LockUse}
use Rattle.bm_board.specs.Locks.{is_mode, is_use, are_distinct}
use Rattle.bm_board.proofs.Uses.{used_once}

-- of the first locks, so many: one holder more of each that is used in the mode, and else the same
abbrev pub Exceeds : ℕ → Mode → List LockUse → List ℕ → List ℕ → Type 0
Exceeds locks mode uses less more =
    (lock : ℕ) → lock < locks → slice_index more lock ≡ slice_index less lock + cond (list_any (is_use mode lock) uses) 1 0

-- the uses before a use leave the count of its lock as it was
pub first_at_its_lock : (locks : ℕ) (mode : Mode) (uses : List LockUse) (i : ℕ) (d : LockUse) (less more : List ℕ) → are_distinct uses ≡ true → i < length uses →
    is_mode (get_or uses i d).mode mode ≡ true → (get_or uses i d).lock < locks → Exceeds locks mode (take i uses) less more →
    slice_index more (get_or uses i d).lock ≡ slice_index less (get_or uses i d).lock
first_at_its_lock locks mode uses i d less more h l e there w =
    let u : LockUse = get_or uses i d in
    let this = and_from (u.lock == u.lock) (is_mode u.mode mode) (eq-eqb u.lock u.lock refl) e in
    let none : ◌≡◌ {A = ℕ} (cond (list_any (is_use mode u.lock) (take i uses)) 1 0) 0 = cond-false _ 1 0 (used_once mode mode u.lock uses i d h l this) in
    omega (arith, w u.lock there, none)
