-- Lemmas on the locks that a build names.
use Rattle.std.proofs.Common.{◌≡◌, ℕ, zero, suc, ◌+◌, ◌<◌, ◌==◌, Bool, true, false, cond, not, ◌&&◌, ◌||◌, List, [], ◌∷◌, length, take, get_or, refl, sym, ap, ◌∙◌, arith, inl, inr}
use Rattle.std.specs.List.{list_any, list_all}
use Rattle.std.proofs.lemmas.Bool.{and_parts, not-true, or_parts, or_from, cases_Bool, eqb-true, eq-eqb, false_from_ne_true, true≢false}
use Rattle.std.proofs.lemmas.List.Folds.{list_any_more}
use Rattle.std.proofs.Math.Bool.{or-false}
use Rattle.bm_board.specs.declared.plan.Mode.{Mode}
use Rattle.bm_board.specs.declared.plan.Mode.TheVariants.{Counting, Exclusive}
use Rattle.bm_board.specs.declared.plan.LockUse.{LockUse}
use Rattle.bm_board.specs.Locks.{is_mode, is_use, are_distinct}

-- a test that no element passes fails at each
pub none_passes : {X : Type 0} (p : X → Bool) (xs : List X) (i : ℕ) (d : X) → list_any p xs ≡ false → i < length xs → p (get_or xs i d) ≡ false
none_passes p [] i d h l = absurd (omega arith)
none_passes p (x ∷ xs) zero d h l = (or_parts (p x) (list_any p xs) h).0
none_passes p (x ∷ xs) (suc i) d h l = none_passes p xs i d (or_parts (p x) (list_any p xs) h).1 (omega arith)

-- where no element passes a test, none passes a stronger one
pub none_passes_more : {X : Type 0} (p q : X → Bool) → ((x : X) → q x ≡ true → p x ≡ true) → (xs : List X) → list_any p xs ≡ false → list_any q xs ≡ false
none_passes_more p q w [] h = refl
none_passes_more p q w (x ∷ xs) h =
    let parts = or_parts (p x) (list_any p xs) h in
    or_from (q x) (list_any q xs) (false_from_ne_true (q x) (λ e. true≢false (sym (w x e) ∙ parts.0))) (none_passes_more p q w xs parts.1)

-- a test that each element passes is passed at each
pub each_passes : {X : Type 0} (p : X → Bool) (xs : List X) (i : ℕ) (d : X) → list_all p xs ≡ true → i < length xs → p (get_or xs i d) ≡ true
each_passes p [] i d h l = absurd (omega arith)
each_passes p (x ∷ xs) zero d h l = (and_parts (p x) (list_all p xs) h).0
each_passes p (x ∷ xs) (suc i) d h l = each_passes p xs i d (and_parts (p x) (list_all p xs) h).1 (omega arith)

-- two tests that agree on each element agree on the list
pub all_alike : {X : Type 0} (p q : X → Bool) (xs : List X) → ((i : ℕ) (d : X) → i < length xs → p (get_or xs i d) ≡ q (get_or xs i d)) → list_all p xs ≡ list_all q xs
all_alike p q [] w = refl
all_alike p q (x ∷ xs) w =
    ap (λ b. b && list_all p xs) (w 0 x (omega arith)) ∙ ap (λ b. q x && b) (all_alike p q xs (λ i d l. w (suc i) d (omega arith)))

eqb-turned : (a b : ℕ) → (a == b) ≡ false → (b == a) ≡ false
eqb-turned a b h = false_from_ne_true (b == a) (λ e. true≢false (sym (eq-eqb a b (sym (eqb-true b a e))) ∙ h))

-- no use before a use names its lock
pub named_once : (uses : List LockUse) (i : ℕ) (d : LockUse) → are_distinct uses ≡ true → i < length uses → list_any (λ other. other.lock == (get_or uses i d).lock) (take i uses) ≡ false
named_once [] i d h l = absurd (omega arith)
named_once (u ∷ us) zero d h l = refl
named_once (u ∷ us) (suc i) d h l =
    let parts = and_parts (not (list_any (λ other. other.lock == u.lock) us)) (are_distinct us) h in
    let rest = not-true (list_any (λ other. other.lock == u.lock) us) parts.0 in
    or_from (u.lock == (get_or us i d).lock) (list_any (λ other. other.lock == (get_or us i d).lock) (take i us))
    (eqb-turned (get_or us i d).lock u.lock (none_passes (λ other. other.lock == u.lock) us i d rest (omega arith)))
    (named_once us i d parts.1 (omega arith))

-- no use before a use of a lock is of that lock
pub used_once : (mode other : Mode) (lock : ℕ) (uses : List LockUse) (i : ℕ) (d : LockUse) → are_distinct uses ≡ true → i < length uses → is_use mode lock (get_or uses i d) ≡ true → list_any (is_use other lock) (take i uses) ≡ false
used_once mode other lock uses i d h l e =
    let u = get_or uses i d in
    let same : u.lock ≡ lock = eqb-true u.lock lock (and_parts (u.lock == lock) (is_mode u.mode mode) e).0 in
    none_passes_more (λ v. v.lock == u.lock) (is_use other lock)
    (λ v t. eq-eqb v.lock u.lock (eqb-true v.lock lock (and_parts (v.lock == lock) (is_mode v.mode other) t).0 ∙ sym same))
    (take i uses) (named_once uses i d h l)

-- one use more
pub shares_more : (mode : Mode) (lock : ℕ) (uses : List LockUse) (i : ℕ) (d : LockUse) → are_distinct uses ≡ true → i < length uses →
    cond (list_any (is_use mode lock) (take (i + 1) uses)) 1 0 ≡ cond (list_any (is_use mode lock) (take i uses)) 1 0 + cond (is_use mode lock (get_or uses i d)) 1 0
shares_more mode lock uses i d h l =
    let more = list_any_more (is_use mode lock) uses i d l in
    elim (cases_Bool (is_use mode lock (get_or uses i d))) [
      | inl e ↦
          let none = used_once mode mode lock uses i d h l e in
          rw (more, e, none)
      | inr e ↦ rw (more, e, or-false) (omega arith)
    ]

-- the same mode
pub same_mode : (a b : Mode) → is_mode a b ≡ true → a ≡ b
same_mode Counting Counting h = refl
same_mode Counting Exclusive h = absurd (true≢false (sym h))
same_mode Exclusive Counting h = absurd (true≢false (sym h))
same_mode Exclusive Exclusive h = refl

-- what each use passes, a used lock passes in its mode
pub used_passes : (f : Mode → ℕ → Bool) (mode : Mode) (lock : ℕ) (uses : List LockUse) → list_all (λ u. f u.mode u.lock) uses ≡ true → list_any (is_use mode lock) uses ≡ true → f mode lock ≡ true
used_passes f mode lock [] h e = absurd (true≢false (sym e))
used_passes f mode lock (u ∷ us) h e =
    let parts = and_parts (f u.mode u.lock) (list_all (λ v. f v.mode v.lock) us) h in
    elim (cases_Bool (is_use mode lock u)) [
      | inl t ↦
          let both = and_parts (u.lock == lock) (is_mode u.mode mode) t in
          ap (λ m. f m lock) (sym (same_mode u.mode mode both.1)) ∙ ap (λ k. f u.mode k) (sym (eqb-true u.lock lock both.0)) ∙ parts.0
      | inr t ↦ used_passes f mode lock us parts.1 (sym (ap (λ b. b || list_any (is_use mode lock) us) t) ∙ e)
    ]

counting≢exclusive : Counting ≡ Exclusive → ⊥
counting≢exclusive h = cc

-- a lock that is used exclusively isn't used counting too
pub one_mode : (lock : ℕ) (uses : List LockUse) → are_distinct uses ≡ true → list_any (is_use Exclusive lock) uses ≡ true → list_any (is_use Counting lock) uses ≡ false
one_mode lock [] h e = refl
one_mode lock (u ∷ us) h e =
    let parts = and_parts (not (list_any (λ other. other.lock == u.lock) us)) (are_distinct us) h in
    let rest = not-true (list_any (λ other. other.lock == u.lock) us) parts.0 in
    let others : (mode : Mode) → u.lock ≡ lock → list_any (is_use mode lock) us ≡ false =
    λ mode same. none_passes_more (λ v. v.lock == u.lock) (is_use mode lock)
    (λ v t. eq-eqb v.lock u.lock (eqb-true v.lock lock (and_parts (v.lock == lock) (is_mode v.mode mode) t).0 ∙ sym same)) us rest in
    elim (cases_Bool (is_use Exclusive lock u)) [
      | inl t ↦
          let both = and_parts (u.lock == lock) (is_mode u.mode Exclusive) t in
          or_from (is_use Counting lock u) (list_any (is_use Counting lock) us)
          (false_from_ne_true (is_use Counting lock u) (λ s.
          counting≢exclusive (sym (same_mode u.mode Counting (and_parts (u.lock == lock) (is_mode u.mode Counting) s).1) ∙ same_mode u.mode Exclusive both.1)))
          (others Counting (eqb-true u.lock lock both.0))
      | inr t ↦
          let later = sym (ap (λ b. b || list_any (is_use Exclusive lock) us) t) ∙ e in
          or_from (is_use Counting lock u) (list_any (is_use Counting lock) us)
          (false_from_ne_true (is_use Counting lock u) (λ s.
          true≢false (sym later ∙ others Exclusive (eqb-true u.lock lock (and_parts (u.lock == lock) (is_mode u.mode Counting) s).0))))
          (one_mode lock us parts.1 later)
    ]
