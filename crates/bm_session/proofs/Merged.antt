-- Merged ranges: how they fall into parts, and how a number is put in.
use Rattle.std.proofs.Common.{◌≡◌, refl, sym, ◌∙◌, ap, subst, ℕ, ◌+◌, ◌<◌, ◌≤◌, Bool, true, false, cond, ◌&&◌, List, [], ◌∷◌, ◌++◌, length, get_or, Option, Some, None, arith}
use Rattle.std.specs.Prelude.{◌==◌, nat_le, option_map, find}
use Rattle.std.specs.Option.{option_or}
use Rattle.std.specs.List.{AllAdjacentBelow}
use Rattle.std.specs.List.Sorted.{IsNonDecreasingBy}
use Rattle.std.proofs.Common.{zero, suc}
use Rattle.std.proofs.lemmas.List.Sorted.{IsNonDecreasingBy-from_all_adjacent}
use Rattle.std.proofs.lemmas.Bool.Decides.{nat_tests}
use Rattle.std.proofs.lemmas.List.Folds.{find-append}
use Rattle.bm_session.specs.declared.seen.Seen.{Seen}
use Rattle.bm_session.specs.declared.reply.Verdict.{Verdict}
use Rattle.bm_session.proofs.Snoc.{and-false}
use Rattle.bm_session.specs.Seen.{IsMerged, verdict_in}

-- Parts

pub verdict_in-append : (ls rs : List Seen) (n : ℕ) → verdict_in (ls ++ rs) n ≡ option_or (verdict_in ls n) (verdict_in rs n)
verdict_in-append ls rs n =
    ap (option_map (λ (r : Seen). r.verdict)) (find-append (λ (r : Seen). nat_le r.first n && nat_le n r.last) ls rs)
    ∙ go (find (λ (r : Seen). nat_le r.first n && nat_le n r.last) ls) (find (λ (r : Seen). nat_le r.first n && nat_le n r.last) rs)
  where
    go : (o p : Option Seen) → option_map (λ (r : Seen). r.verdict) (option_or o p) ≡ option_or (option_map (λ (r : Seen). r.verdict) o) (option_map (λ (r : Seen). r.verdict) p)
    go None p = refl
    go (Some r) p = refl

pub merged-front : (ls rs : List Seen) → IsMerged (ls ++ rs) → IsMerged ls
merged-front [] rs h = tt
merged-front (a ∷ []) [] h = h
merged-front (a ∷ []) (b ∷ rs) h = h.0
merged-front (a ∷ b ∷ ls) rs h = (h.0, h.1, merged-front (b ∷ ls) rs h.2)

pub merged-back : (ls rs : List Seen) → IsMerged (ls ++ rs) → IsMerged rs
merged-back [] rs h = h
merged-back (a ∷ []) [] h = tt
merged-back (a ∷ []) (b ∷ rs) h = h.2
merged-back (a ∷ b ∷ ls) rs h = merged-back (b ∷ ls) rs h.2

-- two merged lists that share the range between them
pub merged-join : (ls : List Seen) (c : Seen) (rs : List Seen) → IsMerged (ls ++ c ∷ []) → IsMerged (c ∷ rs) → IsMerged (ls ++ c ∷ rs)
merged-join [] c rs h g = g
merged-join (a ∷ []) c rs h g = (h.0, h.1, g)
merged-join (a ∷ b ∷ ls) c rs h g = (h.0, h.1, merged-join (b ∷ ls) c rs h.2 g)

-- a range that begins like the last one
pub merged-last : (ls : List Seen) (a c : Seen) → c.first ≡ a.first → c.verdict ≡ a.verdict → c.first ≤ c.last → IsMerged (ls ++ a ∷ []) → IsMerged (ls ++ c ∷ [])
merged-last [] a c f v le h = le
merged-last (b ∷ []) a c f v le h = (h.0, (subst (λ x. b.last < x) (sym f) h.1.0, λ e w. h.1.1 (e ∙ f) (w ∙ v)), le)
merged-last (b ∷ d ∷ ls) a c f v le h = (h.0, h.1, merged-last (d ∷ ls) a c f v le h.2)

-- a range that ends like the first one
pub merged-first : (b c : Seen) (rs : List Seen) → c.last ≡ b.last → c.verdict ≡ b.verdict → c.first ≤ c.last → IsMerged (b ∷ rs) → IsMerged (c ∷ rs)
merged-first b c [] l v le h = le
merged-first b c (d ∷ rs) l v le h = (le, (subst (λ x. x < d.first) (sym l) h.1.0, λ e w. h.1.1 (ap (λ x. x + 1) (sym l) ∙ e) (sym v ∙ w)), h.2)

-- Order

pub merged-ordered : (a : Seen) (rs : List Seen) → IsMerged (a ∷ rs) → a.first ≤ a.last
merged-ordered a [] h = h
merged-ordered a (b ∷ rs) h = h.0

-- the ranges end before the number
abbrev pub AreBelow : ℕ → List Seen → Type 0
AreBelow n [] = Unit {0}
AreBelow n (r ∷ rs) = (r.last < n) × AreBelow n rs

-- the ranges begin after the number
abbrev pub AreAbove : ℕ → List Seen → Type 0
AreAbove n [] = Unit {0}
AreAbove n (r ∷ rs) = (n < r.first) × AreAbove n rs

pub merged-before : (ls : List Seen) (a : Seen) (rs : List Seen) (n : ℕ) → a.first ≤ n → IsMerged (ls ++ a ∷ rs) → AreBelow n ls
merged-before [] a rs n le h = tt
merged-before (b ∷ []) a rs n le h = let near : b.last < a.first = h.1.0 in (omega arith, tt)
merged-before (b ∷ d ∷ ls) a rs n le h =
    let later : AreBelow n (d ∷ ls) = merged-before (d ∷ ls) a rs n le h.2 in
    let whole : d.first ≤ d.last = merged-ordered d (ls ++ a ∷ rs) h.2 in
    let near : b.last < d.first = h.1.0 in
    let far : d.last < n = later.0 in
    (omega arith, later)

pub merged-after : (b : Seen) (rs : List Seen) (n : ℕ) → n < b.first → IsMerged (b ∷ rs) → AreAbove n (b ∷ rs)
merged-after b [] n l h = (l, tt)
merged-after b (d ∷ rs) n l h =
    let whole : b.first ≤ b.last = h.0 in
    let near : b.last < d.first = h.1.0 in
    (l, merged-after d rs n (omega arith) h.2)

none-below : (ls : List Seen) (n : ℕ) → AreBelow n ls → verdict_in ls n ≡ None
none-below [] n h = refl
none-below (r ∷ ls) n h =
    let over : r.last < n = h.0 in
    let off : nat_le n r.last ≡ false = grind (arith, nat_tests) in
    rw (off, and-false (nat_le r.first n)) (none-below ls n h.1)

none-above : (rs : List Seen) (n : ℕ) → AreAbove n rs → verdict_in rs n ≡ None
none-above [] n h = refl
none-above (r ∷ rs) n h =
    let under : n < r.first = h.0 in
    let off : nat_le r.first n ≡ false = grind (arith, nat_tests) in
    rw off (none-above rs n h.1)

-- Look-ups

-- the verdict of one range
abbrev pub verdict_of : Seen → ℕ → Option Verdict
verdict_of r n = cond (nat_le n r.last) (Some r.verdict) None

-- the last range that begins at the number or before it decides
pub verdict-at : (ls : List Seen) (a : Seen) (rs : List Seen) (n : ℕ) → IsMerged (ls ++ a ∷ rs) → a.first ≤ n → AreAbove n rs → verdict_in (ls ++ a ∷ rs) n ≡ verdict_of a n
verdict-at ls a rs n h le above =
    let on : nat_le a.first n ≡ true = grind (arith, nat_tests) in
    verdict_in-append ls (a ∷ rs) n
    ∙ ap (λ o. option_or o (verdict_in (a ∷ rs) n)) (none-below ls n (merged-before ls a rs n le h))
    ∙ ap (λ b. option_map (λ (r : Seen). r.verdict) (cond (b && nat_le n a.last) (Some a) (find (λ (r : Seen). nat_le r.first n && nat_le n r.last) rs))) on
    ∙ go (nat_le n a.last)
  where
    go : (b : Bool) → option_map (λ (r : Seen). r.verdict) (cond b (Some a) (find (λ (r : Seen). nat_le r.first n && nat_le n r.last) rs)) ≡ cond b (Some a.verdict) None
    go true = refl
    go false = none-above rs n above

-- where all ranges begin after the number, none has it
pub verdict-before : (rs : List Seen) (n : ℕ) → AreAbove n rs → verdict_in rs n ≡ None
verdict-before = none-above

-- One number more

-- the verdict on a number, after n was had with verdict v
abbrev pub with_verdict : ℕ → Verdict → (ℕ → Option Verdict) → ℕ → Option Verdict
with_verdict n v had m = cond (m == n) (Some v) (had m)

-- the ranges ms make way for c, which holds their numbers and n
pub replaced : (ls ms rs : List Seen) (c : Seen) (n : ℕ) (v : Verdict)
    → verdict_in (ls ++ ms ++ rs) n ≡ None
    → ((m : ℕ) → verdict_in (c ∷ []) m ≡ with_verdict n v (verdict_in ms) m)
    → (m : ℕ) → verdict_in (ls ++ c ∷ rs) m ≡ with_verdict n v (verdict_in (ls ++ ms ++ rs)) m
replaced ls ms rs c n v new held m =
    verdict_in-append ls (c ∷ rs) m
    ∙ ap (option_or (verdict_in ls m)) (verdict_in-append (c ∷ []) rs m ∙ ap (λ o. option_or o (verdict_in rs m)) (held m))
    ∙ go (m == n) refl
  where
    parts : (k : ℕ) → verdict_in (ls ++ ms ++ rs) k ≡ option_or (option_or (verdict_in ls k) (verdict_in ms k)) (verdict_in rs k)
    parts k = verdict_in-append (ls ++ ms) rs k ∙ ap (λ o. option_or o (verdict_in rs k)) (verdict_in-append ls ms k)

    group : (o p q : Option Verdict) → option_or o (option_or p q) ≡ option_or (option_or o p) q
    group None p q = refl
    group (Some x) p q = refl

    front-none : (o p q : Option Verdict) → option_or (option_or o p) q ≡ None → o ≡ None
    front-none None p q h = refl
    front-none (Some x) p q h = cc

    go : (b : Bool) → (m == n) ≡ b → option_or (verdict_in ls m) (option_or (cond b (Some v) (verdict_in ms m)) (verdict_in rs m)) ≡ cond b (Some v) (verdict_in (ls ++ ms ++ rs) m)
    go true e =
        let same : m ≡ n = grind (arith, nat_tests) in
        let no : verdict_in ls n ≡ None = front-none (verdict_in ls n) (verdict_in ms n) (verdict_in rs n) (sym (parts n) ∙ new) in
        ap (λ o. option_or o (Some v)) (ap (verdict_in ls) same ∙ no)
    go false e = group (verdict_in ls m) (verdict_in ms m) (verdict_in rs m) ∙ sym (parts m)

-- the ranges are sorted
pub merged-sorted : (rs : List Seen) → IsMerged rs → IsNonDecreasingBy (λ (r : Seen). r.first) rs
merged-sorted rs merged = IsNonDecreasingBy-from_all_adjacent (λ (r : Seen). r.first) rs (adjacent rs merged)
  where
    adjacent : (rs : List Seen) → IsMerged rs → AllAdjacentBelow (λ (x y : Seen). x.first ≤ y.first) rs (length rs)
    adjacent [] h k d l = absurd (omega arith)
    adjacent (a ∷ []) h k d l = absurd (omega arith)
    adjacent (a ∷ b ∷ rs) h zero d l = let whole : a.first ≤ a.last = h.0 in let near : a.last < b.first = h.1.0 in omega arith
    adjacent (a ∷ b ∷ rs) h (suc k) d l =
        let step : suc k + 1 ≡ suc (k + 1) = omega arith in
        subst (λ i. (get_or (b ∷ rs) k d).first ≤ (get_or (a ∷ b ∷ rs) i d).first) (sym step) (adjacent (b ∷ rs) h.2 k d (omega arith))

-- ranges that hold no number are none
pub merged-none : (rs : List Seen) → IsMerged rs → ((n : ℕ) → verdict_in rs n ≡ None) → rs ≡ []
merged-none [] h none = refl
merged-none (a ∷ rs) h none =
    let whole : a.first ≤ a.last = merged-ordered a rs h in
    let inside : (nat_le a.first a.first && nat_le a.first a.last) ≡ true = grind (arith, nat_tests) in
    let held : verdict_in (a ∷ rs) a.first ≡ Some a.verdict = ap (λ b. option_map (λ (r : Seen). r.verdict) (cond b (Some a) (find (λ (r : Seen). nat_le r.first a.first && nat_le a.first r.last) rs))) inside in
    let clash : Some a.verdict ≡ None = sym held ∙ none a.first in
    cc
