-- Where the first text ends.
use Rattle.std.proofs.Common.{◌≡◌, ℕ, suc, zero, ◌+◌, ◌<◌, ◌≤◌, ◌==◌, true, false, List, [], ◌∷◌, length, take, get_or, Some, None, option_map, refl, ap, ◌∙◌, arith}
use Rattle.std.proofs.lemmas.Bool.Decides.{nat_tests}
use Rattle.std.proofs.lemmas.List.{get_or-take, length-take-le}
use Rattle.memchr.specs.Find.{Nowhere, Passes, is_byte, IsFirstByte}
use Rattle.bm_work.specs.Cuts.{first_end}

-- no line end before place n
pub record IsInLine (bs : List ℕ) (n : ℕ) : Type 0 where
  pub holds : (j : ℕ) → j < n → ¬ ((get_or bs j 0 == 10) ≡ true)

is_in_line-head : (b : ℕ) (bs : List ℕ) (n : ℕ) → IsInLine (b ∷ bs) (suc n) → (b == 10) ≡ false
is_in_line-head b bs n h = let plain : ¬ ((b == 10) ≡ true) = h.holds 0 (omega arith) in grind (arith, nat_tests)

is_in_line-tail : (b : ℕ) (bs : List ℕ) (n : ℕ) → IsInLine (b ∷ bs) (suc n) → IsInLine bs n
is_in_line-tail b bs n h = record { holds = λ j l. h.holds (suc j) (omega arith) }

-- a byte that ends nothing
first_end-step : (k b : ℕ) (bs : List ℕ) → (b == 10) ≡ false → k + 1 < 16384 → first_end k (b ∷ bs) ≡ option_map (λ n. n + 1) (first_end (k + 1) bs)
first_end-step k b bs plain l =
    let short : (k + 1 == 16384) ≡ false = grind (arith, nat_tests) in rw (plain, short) refl

pub first_end-none : (k : ℕ) (bs : List ℕ) → IsInLine bs (length bs) → k + length bs < 16384 → first_end k bs ≡ None
first_end-none k [] h l = refl
first_end-none k (b ∷ bs) h l =
    let rest = first_end-none (k + 1) bs (is_in_line-tail b bs (length bs) h) (omega arith) in
    first_end-step k b bs (is_in_line-head b bs (length bs) h) (omega arith) ∙ ap (option_map (λ n. n + 1)) rest

-- at the first line end
pub first_end-line : (k : ℕ) (bs : List ℕ) (i : ℕ) → i < length bs → IsInLine bs i → (get_or bs i 0 == 10) ≡ true → k + i < 16384 → first_end k bs ≡ Some (i + 1)
first_end-line k [] i l h ends s = absurd (omega arith)
first_end-line k (b ∷ bs) zero l h ends s = rw ends refl
first_end-line k (b ∷ bs) (suc i) l h ends s =
    let rest = first_end-line (k + 1) bs i (omega arith) (is_in_line-tail b bs i h) ends (omega arith) in
    let next : i + 1 + 1 ≡ suc i + 1 = omega arith in
    first_end-step k b bs (is_in_line-head b bs i h) (omega arith) ∙ (ap (option_map (λ n. n + 1)) rest ∙ ap Some next)

-- after the longest text
pub first_end-full : (k : ℕ) (bs : List ℕ) (n : ℕ) → n < length bs → IsInLine bs (suc n) → k + suc n ≡ 16384 → first_end k bs ≡ Some (suc n)
first_end-full k [] n l h s = absurd (omega arith)
first_end-full k (b ∷ bs) zero l h s =
    let full : (k + 1 == 16384) ≡ true = grind (arith, nat_tests) in
    rw (is_in_line-head b bs 0 h, full) refl
first_end-full k (b ∷ bs) (suc n) l h s =
    let rest = first_end-full (k + 1) bs n (omega arith) (is_in_line-tail b bs (suc n) h) (omega arith) in
    let next : suc n + 1 ≡ suc (suc n) = omega arith in
    first_end-step k b bs (is_in_line-head b bs (suc n) h) (omega arith) ∙ (ap (option_map (λ n. n + 1)) rest ∙ ap Some next)

-- what a search among the first n bytes tells
is_in_line-below : (bs : List ℕ) (n i : ℕ) → i ≤ n → Nowhere (Passes (is_byte 10) (take n bs)) 0 i → IsInLine bs i
is_in_line-below bs n i l h =
    record { holds = λ j below ends. h j (omega arith) below (rw (get_or-take n bs j 0 (omega arith)) ends) }

pub first_end-found : (k : ℕ) (bs : List ℕ) (n i : ℕ) → n ≤ length bs → k + n ≤ 16384 → IsFirstByte (is_byte 10) (take n bs) (Some i) → first_end k bs ≡ Some (i + 1)
first_end-found k bs n i fits short h =
    let below : i < n = omega (arith, h.0.high, length-take-le n bs fits) in
    first_end-line k bs i (omega arith) (is_in_line-below bs n i (omega arith) h.0.before) (rw (get_or-take n bs i 0 below) at h.1) (omega arith)

pub first_end-longest : (k : ℕ) (bs : List ℕ) (n : ℕ) → n ≤ length bs → 0 < n → k + n ≡ 16384 → IsFirstByte (is_byte 10) (take n bs) None → first_end k bs ≡ Some n
first_end-longest k bs zero fits some full h = absurd (omega arith)
first_end-longest k bs (suc n) fits some full h =
    let whole : length (take (suc n) bs) ≡ suc n = length-take-le (suc n) bs fits in
    first_end-full k bs n (omega arith) (is_in_line-below bs (suc n) (suc n) (omega arith) (rw whole at h)) full

pub first_end-nowhere : (k : ℕ) (bs : List ℕ) (n : ℕ) → n ≡ length bs → k + n < 16384 → IsFirstByte (is_byte 10) (take n bs) None → first_end k bs ≡ None
first_end-nowhere k bs n all short h =
    let whole : length (take n bs) ≡ length bs = length-take-le n bs (omega arith) ∙ all in
    first_end-none k bs (is_in_line-below bs n (length bs) (omega arith) (rw whole at h)) (omega arith)
