-- A number put into merged ranges.
use Rattle.std.proofs.Common.{◌≡◌, refl, sym, ◌∙◌, ap, subst, ℕ, zero, suc, ◌+◌, ◌-◌, ◌<◌, ◌≤◌, Bool, true, false, cond, ◌&&◌, List, [], ◌∷◌, ◌++◌, length, get_or, take, drop, Some, None, arith, append_assoc}
use Rattle.std.specs.Prelude.{◌==◌, nat_le, option_map}
use Rattle.std.specs.List.{AllWithin}
use Rattle.std.specs.List.Sorted.{IsPartitionPoint}
use Rattle.std.proofs.lemmas.Bool.Decides.{nat_tests}
use Rattle.std.specs.Prelude.{remove}
use Rattle.std.proofs.Common.{set}
use Rattle.std.proofs.lemmas.List.{length-append, length-take-le, set_split, take-append-le, take-take, drop_at, take-append-drop, drop_all, append-nil, get_or_default}
use Rattle.std.proofs.Math.Seq.{take-suc, drop-cons}
use Rattle.std.specs.Prelude.{◌⊎◌}
use Rattle.std.proofs.Common.{inl, inr}
use Rattle.std.proofs.lemmas.Bool.{cases_lt}
use Rattle.bm_session.specs.declared.seen.Seen.{Seen}
use Rattle.bm_session.specs.declared.reply.Verdict.{Verdict}
use Rattle.bm_session.specs.Seen.{IsMerged, verdict_in}
use Rattle.bm_session.specs.Ranges.{HoldsAlso, IsPlace, JoinsBefore, JoinsAfter}
use Rattle.bm_session.proofs.Merged.{AreAbove, merged-front, merged-back, merged-join, merged-last, merged-first, merged-ordered, verdict_of, verdict-at, verdict-before, with_verdict, replaced}

-- What one range holds

-- the range from f to l has m
within : ℕ → ℕ → ℕ → Bool
within f l m = nat_le f m && nat_le m l

abbrev one : ℕ → ℕ → Verdict → Seen
one f l v = record { first = f; last = l; verdict = v }

alone-holds : (n : ℕ) (v : Verdict) (m : ℕ) → verdict_in (one n n v ∷ []) m ≡ with_verdict n v (verdict_in []) m
alone-holds n v m =
    let same : (nat_le n m && nat_le m n) ≡ (m == n) = grind (arith, nat_tests) in
    ap (λ b. option_map (λ (r : Seen). r.verdict) (cond b (Some (one n n v)) None)) same ∙ go (m == n)
  where
    go : (b : Bool) → option_map (λ (r : Seen). r.verdict) (cond b (Some (one n n v)) None) ≡ cond b (Some v) None
    go true = refl
    go false = refl

-- a range that has one number more than another, with its verdict
grown-holds : (a : Seen) (f l n : ℕ) → (nat_le f n && nat_le n l) ≡ true
    → ((m : ℕ) → (m == n) ≡ false → (nat_le f m && nat_le m l) ≡ (nat_le a.first m && nat_le m a.last))
    → (m : ℕ) → verdict_in (one f l a.verdict ∷ []) m ≡ with_verdict n a.verdict (verdict_in (a ∷ [])) m
grown-holds a f l n inside outside m = go (m == n) refl
  where
    drop-to : (b : Bool) → option_map (λ (r : Seen). r.verdict) (cond b (Some (one f l a.verdict)) None) ≡ option_map (λ (r : Seen). r.verdict) (cond b (Some a) None)
    drop-to true = refl
    drop-to false = refl

    go : (b : Bool) → (m == n) ≡ b → verdict_in (one f l a.verdict ∷ []) m ≡ cond b (Some a.verdict) (verdict_in (a ∷ []) m)
    go true e =
        let same : m ≡ n = grind (arith, nat_tests) in
        ap (λ x. option_map (λ (r : Seen). r.verdict) (cond (nat_le f x && nat_le x l) (Some (one f l a.verdict)) None)) same
        ∙ ap (λ b. option_map (λ (r : Seen). r.verdict) (cond b (Some (one f l a.verdict)) None)) inside
    go false e = ap (λ b. option_map (λ (r : Seen). r.verdict) (cond b (Some (one f l a.verdict)) None)) (outside m e) ∙ drop-to (nat_le a.first m && nat_le m a.last)

before-holds : (a : Seen) (n : ℕ) → a.first ≤ a.last → a.last + 1 ≡ n → (m : ℕ) → verdict_in (one a.first n a.verdict ∷ []) m ≡ with_verdict n a.verdict (verdict_in (a ∷ [])) m
before-holds a n le e = grown-holds a a.first n n (grind (arith, nat_tests)) (λ m o. grind (arith, nat_tests))

after-holds : (b : Seen) (n : ℕ) → b.first ≤ b.last → n + 1 ≡ b.first → (m : ℕ) → verdict_in (one n b.last b.verdict ∷ []) m ≡ with_verdict n b.verdict (verdict_in (b ∷ [])) m
after-holds b n le e = grown-holds b n b.last n (grind (arith, nat_tests)) (λ m o. grind (arith, nat_tests))

both-hold : (a b : Seen) (n : ℕ) → a.first ≤ a.last → b.first ≤ b.last → a.last + 1 ≡ n → n + 1 ≡ b.first → a.verdict ≡ b.verdict → (m : ℕ) → verdict_in (one a.first b.last a.verdict ∷ []) m ≡ with_verdict n a.verdict (verdict_in (a ∷ b ∷ [])) m
both-hold a b n le le' e e' v m = go (m == n) refl
  where
    split : (x y z : Bool) → x ≡ cond y true z → option_map (λ (r : Seen). r.verdict) (cond x (Some (one a.first b.last a.verdict)) None) ≡ option_map (λ (r : Seen). r.verdict) (cond y (Some a) (cond z (Some b) None))
    split x true z h = rw h refl
    split x false true h = rw h (ap Some v)
    split x false false h = rw h refl

    go : (t : Bool) → (m == n) ≡ t → verdict_in (one a.first b.last a.verdict ∷ []) m ≡ cond t (Some a.verdict) (verdict_in (a ∷ b ∷ []) m)
    go true t =
        let same : m ≡ n = grind (arith, nat_tests) in
        let inside : (nat_le a.first n && nat_le n b.last) ≡ true = grind (arith, nat_tests) in
        ap (λ x. option_map (λ (r : Seen). r.verdict) (cond (nat_le a.first x && nat_le x b.last) (Some (one a.first b.last a.verdict)) None)) same
        ∙ ap (λ x. option_map (λ (r : Seen). r.verdict) (cond x (Some (one a.first b.last a.verdict)) None)) inside
    go false t = split _ (nat_le a.first m && nat_le m a.last) (nat_le b.first m && nat_le m b.last) (grind (arith, nat_tests))

-- The ranges round a place

pred : (p : ℕ) → suc p - 1 ≡ p
pred p = omega arith

above-from : (rs : List Seen) (n i : ℕ) → AllWithin (λ (r : Seen). n < r.first) rs i (length rs) → AreAbove n (drop i rs)
above-from [] n zero h = tt
above-from [] n (suc i) h = tt
above-from (r ∷ rs) n zero h = (h 0 r (omega arith) (omega arith), above-from rs n zero (λ k d l g. h (suc k) d (omega arith) (omega arith)))
above-from (r ∷ rs) n (suc i) h = above-from rs n i (λ k d l g. h (suc k) d (omega arith) (omega arith))

split-at : (rs : List Seen) (p : ℕ) (d : Seen) → p < length rs → rs ≡ take p rs ++ get_or rs p d ∷ drop (suc p) rs
split-at rs p d l = sym (take-append-drop p rs) ∙ ap (λ ys. take p rs ++ ys) (drop-cons rs p d l)

-- what is known of the range before the place
record IsLast (rs : List Seen) (p n : ℕ) (a : Seen) : Type 0 where
  pub front : IsMerged (take p rs ++ a ∷ [])
  pub split : take (suc p) rs ≡ take p rs ++ a ∷ []
  pub ordered : a.first ≤ a.last
  pub ended : a.last < n

last-at : (rs : List Seen) (p n : ℕ) (d : Seen) → IsMerged rs → IsPlace rs n (suc p) → verdict_in rs n ≡ None → IsLast rs p n (get_or rs p d)
last-at rs p n d merged place new =
    let a : Seen = get_or rs p d in
    let bound : suc p ≤ length rs = place.bound in
    let inside : p < length rs = omega arith in
    let whole : rs ≡ take p rs ++ get_or rs p d ∷ drop (suc p) rs = split-at rs p d inside in
    let parts : IsMerged (take p rs ++ get_or rs p d ∷ drop (suc p) rs) = subst IsMerged whole merged in
    let begun : (get_or rs p d).first ≤ n = place.begun p d (omega arith) (omega arith) in
    let off : verdict_of (get_or rs p d) n ≡ None = sym (verdict-at (take p rs) (get_or rs p d) (drop (suc p) rs) n parts begun (above-from rs n (suc p) place.later)) ∙ ap (λ ys. verdict_in ys n) (sym whole) ∙ new in
    let past : nat_le n (get_or rs p d).last ≡ false = no (nat_le n (get_or rs p d).last) (get_or rs p d).verdict off in
    record {
      front = merged-front (take p rs ++ get_or rs p d ∷ []) (drop (suc p) rs) (subst IsMerged (sym (append_assoc (take p rs) (get_or rs p d ∷ []) (drop (suc p) rs))) parts);
      split = take-suc rs p d inside;
      ordered = merged-ordered (get_or rs p d) (drop (suc p) rs) (merged-back (take p rs) (get_or rs p d ∷ drop (suc p) rs) parts);
      ended = grind (arith, nat_tests);
    }
  where
    no : (b : Bool) (v : Verdict) → cond b (Some v) None ≡ None → b ≡ false
    no false v h = refl
    no true v h = cc

-- what is known of the range at the place
record IsNext (rs : List Seen) (i n : ℕ) (b : Seen) : Type 0 where
  pub back : IsMerged (b ∷ drop (suc i) rs)
  pub split : drop i rs ≡ b ∷ drop (suc i) rs
  pub ordered : b.first ≤ b.last
  pub begins : n < b.first

next-at : (rs : List Seen) (i n : ℕ) (d : Seen) → i < length rs → IsMerged rs → IsPlace rs n i → IsNext rs i n (get_or rs i d)
next-at rs i n d inside merged place =
    let back : IsMerged (get_or rs i d ∷ drop (suc i) rs) = merged-back (take i rs) (get_or rs i d ∷ drop (suc i) rs) (subst IsMerged (split-at rs i d inside) merged) in
    record {
      back = back;
      split = drop-cons rs i d inside;
      ordered = merged-ordered (get_or rs i d) (drop (suc i) rs) back;
      begins = place.later i d (omega arith) inside;
    }

-- the verdict on a number, by its place
pub verdict-first : (rs : List Seen) (n : ℕ) → IsPlace rs n 0 → verdict_in rs n ≡ None
verdict-first rs n place = verdict-before rs n (above-from rs n 0 place.later)

pub verdict-place : (rs : List Seen) (n i : ℕ) (d : Seen) → 0 < i → IsMerged rs → IsPlace rs n i → verdict_in rs n ≡ verdict_of (get_or rs (i - 1) d) n
verdict-place rs n zero d some merged place = absurd (omega arith)
verdict-place rs n (suc p) d some merged place =
    let bound : suc p ≤ length rs = place.bound in
    let whole : rs ≡ take p rs ++ get_or rs p d ∷ drop (suc p) rs = split-at rs p d (omega arith) in
    ap (λ ys. verdict_in ys n) whole
    ∙ verdict-at (take p rs) (get_or rs p d) (drop (suc p) rs) n (subst IsMerged whole merged) (place.begun p d (omega arith) (omega arith)) (above-from rs n (suc p) place.later)
    ∙ ap (λ k. verdict_of (get_or rs k d) n) (sym (pred p))

-- Before the place, and at it

-- the front of the new list: a range from f to n stands after the ranges ls
front-alone : (rs : List Seen) (i n : ℕ) (v : Verdict) → IsMerged rs → IsPlace rs n i → verdict_in rs n ≡ None → (JoinsBefore rs i n v → ⊥) → IsMerged (take i rs ++ one n n v ∷ [])
front-alone rs zero n v merged place new apart = omega arith
front-alone rs (suc p) n v merged place new apart =
    let last : IsLast rs p n (get_or rs p (one n n v)) = last-at rs p n (one n n v) merged place new in
    let joined : IsMerged (take p rs ++ get_or rs p (one n n v) ∷ (one n n v ∷ [])) =
    merged-join (take p rs) (get_or rs p (one n n v)) (one n n v ∷ []) last.front (last.ordered, (last.ended, λ e w. far e w), omega arith) in
    subst IsMerged (sym (append_assoc (take p rs) (get_or rs p (one n n v) ∷ []) (one n n v ∷ [])) ∙ ap (λ ys. ys ++ one n n v ∷ []) (sym last.split)) joined
  where
    inside : p < length rs
    inside = let bound : suc p ≤ length rs = place.bound in omega arith

    same : (d : Seen) → get_or rs (suc p - 1) d ≡ get_or rs p (one n n v)
    same d = ap (λ k. get_or rs k d) (pred p) ∙ get_or_default rs p d (one n n v) inside

    far : (get_or rs p (one n n v)).last + 1 ≡ n → (get_or rs p (one n n v)).verdict ≡ v → ⊥
    far e w = apart (record {
      some = omega arith;
      near = λ d. ap (λ (r : Seen). r.last + 1) (same d) ∙ e;
      same = λ d. ap (λ (r : Seen). r.verdict) (same d) ∙ w;
    })

back-alone : (rs : List Seen) (i n : ℕ) (v : Verdict) → IsMerged rs → IsPlace rs n i → (JoinsAfter rs i n v → ⊥) → IsMerged (one n n v ∷ drop i rs)
back-alone rs i n v merged place apart = go (cases_lt i (length rs))
  where
    far : i < length rs → n + 1 ≡ (get_or rs i (one n n v)).first → v ≡ (get_or rs i (one n n v)).verdict → ⊥
    far inside e w = apart (record {
      some = inside;
      near = λ d. e ∙ ap (λ (r : Seen). r.first) (get_or_default rs i (one n n v) d inside);
      same = λ d. w ∙ ap (λ (r : Seen). r.verdict) (get_or_default rs i (one n n v) d inside);
    })

    go : (i < length rs) ⊎ (length rs ≤ i) → IsMerged (one n n v ∷ drop i rs)
    go (inl inside) =
        let at : IsNext rs i n (get_or rs i (one n n v)) = next-at rs i n (one n n v) inside merged place in
        subst (λ ys. IsMerged (one n n v ∷ ys)) (sym at.split) (omega arith, (at.begins, λ e w. far inside e w), at.back)
    go (inr past) = subst (λ ys. IsMerged (one n n v ∷ ys)) (sym (drop_all i rs past)) (omega arith)

-- The four ways

-- a range from f to l, between a front that goes on to n and a back that goes on from n
glued : (ls rs : List Seen) (f l n : ℕ) (v : Verdict) → f ≤ n → n ≤ l → IsMerged (ls ++ one f n v ∷ []) → IsMerged (one n l v ∷ rs) → IsMerged (ls ++ one f l v ∷ rs)
glued ls rs f l n v le le' front back =
    merged-join ls (one f l v) rs
    (merged-last ls (one f n v) (one f l v) refl refl (omega arith) front)
    (merged-first (one n l v) (one f l v) rs refl refl (omega arith) back)

pub inserted-alone : (rs : List Seen) (i n : ℕ) (v : Verdict) → IsMerged rs → IsPlace rs n i → verdict_in rs n ≡ None → (JoinsBefore rs i n v → ⊥) → (JoinsAfter rs i n v → ⊥) → HoldsAlso rs (take i rs ++ one n n v ∷ drop i rs) n v
inserted-alone rs i n v merged place new before after = record {
  merged = glued (take i rs) (drop i rs) n n n v (omega arith) (omega arith) (front-alone rs i n v merged place new before) (back-alone rs i n v merged place after);
  exact = λ m.
      replaced (take i rs) [] (drop i rs) (one n n v) n v (ap (λ ys. verdict_in ys n) parts ∙ new) (alone-holds n v) m
      ∙ ap (λ ys. cond (m == n) (Some v) (verdict_in ys m)) parts;
}
  where
    parts : take i rs ++ [] ++ drop i rs ≡ rs
    parts = ap (λ ys. ys ++ drop i rs) (append-nil (take i rs)) ∙ take-append-drop i rs

pub inserted-before : (rs : List Seen) (i n : ℕ) (v : Verdict) → IsMerged rs → IsPlace rs n i → verdict_in rs n ≡ None → JoinsBefore rs i n v → (JoinsAfter rs i n v → ⊥)
    → (c : Seen) → ((d : Seen) → c ≡ one (get_or rs (i - 1) d).first n v) → HoldsAlso rs (take (i - 1) rs ++ c ∷ drop i rs) n v
inserted-before rs zero n v merged place new before after c e = absurd (omega (arith, before.some))
inserted-before rs (suc p) n v merged place new before after c e =
    let last : IsLast rs p n a = last-at rs p n (one n n v) merged place new in
    let near : a.last + 1 ≡ n = ap (λ (r : Seen). r.last + 1) (sym (same (one n n v))) ∙ before.near (one n n v) in
    let verdict : a.verdict ≡ v = ap (λ (r : Seen). r.verdict) (sym (same (one n n v))) ∙ before.same (one n n v) in
    let parts : take p rs ++ (a ∷ []) ++ drop (suc p) rs ≡ rs = ap (λ ys. ys ++ drop (suc p) rs) (sym last.split) ∙ take-append-drop (suc p) rs in
    let is : c ≡ one a.first n v = e (one n n v) ∙ ap (λ (r : Seen). one r.first n v) (same (one n n v)) in
    let front : IsMerged (take p rs ++ one a.first n v ∷ []) = merged-last (take p rs) a (one a.first n v) refl (sym verdict) (omega (arith, last.ordered)) last.front in
    let holds : HoldsAlso rs (take p rs ++ one a.first n v ∷ drop (suc p) rs) n v = record {
      merged = glued (take p rs) (drop (suc p) rs) a.first n n v (omega (arith, last.ordered)) (omega arith) front (back-alone rs (suc p) n v merged place after);
      exact = λ m.
          replaced (take p rs) (a ∷ []) (drop (suc p) rs) (one a.first n v) n v (ap (λ ys. verdict_in ys n) parts ∙ new)
          (subst (λ w. (m : ℕ) → verdict_in (one a.first n w ∷ []) m ≡ with_verdict n w (verdict_in (a ∷ [])) m) verdict (before-holds a n last.ordered near)) m
          ∙ ap (λ ys. cond (m == n) (Some v) (verdict_in ys m)) parts;
    } in
    subst (λ ys. HoldsAlso rs ys n v) (ap (λ k. take k rs ++ one a.first n v ∷ drop (suc p) rs) (sym (pred p)) ∙ ap (λ x. take (suc p - 1) rs ++ x ∷ drop (suc p) rs) (sym is)) holds
  where
    a : Seen
    a = get_or rs p (one n n v)

    same : (d : Seen) → get_or rs (suc p - 1) d ≡ get_or rs p (one n n v)
    same d = let bound : suc p ≤ length rs = place.bound in ap (λ k. get_or rs k d) (pred p) ∙ get_or_default rs p d (one n n v) (omega arith)

pub inserted-after : (rs : List Seen) (i n : ℕ) (v : Verdict) → IsMerged rs → IsPlace rs n i → verdict_in rs n ≡ None → (JoinsBefore rs i n v → ⊥) → JoinsAfter rs i n v
    → (c : Seen) → ((d : Seen) → c ≡ one n (get_or rs i d).last v) → HoldsAlso rs (take i rs ++ c ∷ drop (suc i) rs) n v
inserted-after rs i n v merged place new before after c e =
    let at : IsNext rs i n b = next-at rs i n (one n n v) after.some merged place in
    let near : n + 1 ≡ b.first = after.near (one n n v) in
    let verdict : b.verdict ≡ v = sym (after.same (one n n v)) in
    let parts : take i rs ++ (b ∷ []) ++ drop (suc i) rs ≡ rs = append_assoc (take i rs) (b ∷ []) (drop (suc i) rs) ∙ sym (split-at rs i (one n n v) after.some) in
    let back : IsMerged (one n b.last v ∷ drop (suc i) rs) = merged-first b (one n b.last v) (drop (suc i) rs) refl (sym verdict) (omega (arith, at.ordered)) at.back in
    let holds : HoldsAlso rs (take i rs ++ one n b.last v ∷ drop (suc i) rs) n v = record {
      merged = glued (take i rs) (drop (suc i) rs) n b.last n v (omega arith) (omega (arith, at.ordered)) (front-alone rs i n v merged place new before) back;
      exact = λ m.
          replaced (take i rs) (b ∷ []) (drop (suc i) rs) (one n b.last v) n v (ap (λ ys. verdict_in ys n) parts ∙ new)
          (subst (λ w. (m : ℕ) → verdict_in (one n b.last w ∷ []) m ≡ with_verdict n w (verdict_in (b ∷ [])) m) verdict (after-holds b n at.ordered near)) m
          ∙ ap (λ ys. cond (m == n) (Some v) (verdict_in ys m)) parts;
    } in
    subst (λ x. HoldsAlso rs (take i rs ++ x ∷ drop (suc i) rs) n v) (sym (e (one n n v))) holds
  where
    b : Seen
    b = get_or rs i (one n n v)

pub inserted-between : (rs : List Seen) (i n : ℕ) (v : Verdict) → IsMerged rs → IsPlace rs n i → verdict_in rs n ≡ None → JoinsBefore rs i n v → JoinsAfter rs i n v
    → (c : Seen) → ((d : Seen) → c ≡ one (get_or rs (i - 1) d).first (get_or rs i d).last v) → HoldsAlso rs (take (i - 1) rs ++ c ∷ drop (suc i) rs) n v
inserted-between rs zero n v merged place new before after c e = absurd (omega (arith, before.some))
inserted-between rs (suc p) n v merged place new before after c e =
    let last : IsLast rs p n a = last-at rs p n (one n n v) merged place new in
    let at : IsNext rs (suc p) n b = next-at rs (suc p) n (one n n v) after.some merged place in
    let near : a.last + 1 ≡ n = ap (λ (r : Seen). r.last + 1) (sym (same (one n n v))) ∙ before.near (one n n v) in
    let verdict : a.verdict ≡ v = ap (λ (r : Seen). r.verdict) (sym (same (one n n v))) ∙ before.same (one n n v) in
    let near' : n + 1 ≡ b.first = after.near (one n n v) in
    let verdict' : b.verdict ≡ v = sym (after.same (one n n v)) in
    let parts : take p rs ++ (a ∷ b ∷ []) ++ drop (suc (suc p)) rs ≡ rs =
    append_assoc (take p rs) (a ∷ b ∷ []) (drop (suc (suc p)) rs)
    ∙ sym (append_assoc (take p rs) (a ∷ []) (b ∷ drop (suc (suc p)) rs))
    ∙ ap (λ ys. ys ++ b ∷ drop (suc (suc p)) rs) (sym last.split)
    ∙ sym (split-at rs (suc p) (one n n v) after.some) in
    let is : c ≡ one a.first b.last v = e (one n n v) ∙ ap (λ (r : Seen). one r.first b.last v) (same (one n n v)) in
    let front : IsMerged (take p rs ++ one a.first n v ∷ []) = merged-last (take p rs) a (one a.first n v) refl (sym verdict) (omega (arith, last.ordered)) last.front in
    let back : IsMerged (one n b.last v ∷ drop (suc (suc p)) rs) = merged-first b (one n b.last v) (drop (suc (suc p)) rs) refl (sym verdict') (omega (arith, at.ordered)) at.back in
    let holds : HoldsAlso rs (take p rs ++ one a.first b.last v ∷ drop (suc (suc p)) rs) n v = record {
      merged = glued (take p rs) (drop (suc (suc p)) rs) a.first b.last n v (omega (arith, last.ordered)) (omega (arith, at.ordered)) front back;
      exact = λ m.
          replaced (take p rs) (a ∷ b ∷ []) (drop (suc (suc p)) rs) (one a.first b.last v) n v (ap (λ ys. verdict_in ys n) parts ∙ new)
          (subst (λ w. (m : ℕ) → verdict_in (one a.first b.last w ∷ []) m ≡ with_verdict n w (verdict_in (a ∷ b ∷ [])) m) verdict (both-hold a b n last.ordered at.ordered near near' (verdict ∙ sym verdict'))) m
          ∙ ap (λ ys. cond (m == n) (Some v) (verdict_in ys m)) parts;
    } in
    subst (λ ys. HoldsAlso rs ys n v) (ap (λ k. take k rs ++ one a.first b.last v ∷ drop (suc (suc p)) rs) (sym (pred p)) ∙ ap (λ x. take (suc p - 1) rs ++ x ∷ drop (suc (suc p)) rs) (sym is)) holds
  where
    a : Seen
    a = get_or rs p (one n n v)

    b : Seen
    b = get_or rs (suc p) (one n n v)

    same : (d : Seen) → get_or rs (suc p - 1) d ≡ get_or rs p (one n n v)
    same d = let bound : suc p ≤ length rs = place.bound in ap (λ k. get_or rs k d) (pred p) ∙ get_or_default rs p d (one n n v) (omega arith)

-- The place of a number

pub place-from : (rs : List Seen) (n i : ℕ) → i ≤ length rs → IsPartitionPoint (λ (r : Seen). nat_le r.first n ≡ true) (λ (r : Seen). nat_le r.first n ≡ false) rs i → IsPlace rs n i
place-from rs n i bound h = record {
  bound = bound;
  begun = λ k d l g. let on : nat_le (get_or rs k d).first n ≡ true = h.0 k d l g in grind (arith, nat_tests);
  later = λ k d l g. let off : nat_le (get_or rs k d).first n ≡ false = h.1 k d l g in grind (arith, nat_tests);
}

-- a range written before a place from which one was removed
pub set-remove : (rs : List Seen) (i : ℕ) (c : Seen) → 0 < i → i < length rs → set (remove rs i) (i - 1) c ≡ take (i - 1) rs ++ c ∷ drop (suc i) rs
set-remove rs zero c some l = absurd (omega arith)
set-remove rs (suc p) c some l =
    let short : length (take (suc p) rs) ≡ suc p = length-take-le (suc p) rs (omega arith) in
    let whole : length (take (suc p) rs ++ drop (suc (suc p)) rs) ≡ suc p + length (drop (suc (suc p)) rs) = length-append (take (suc p) rs) (drop (suc (suc p)) rs) ∙ ap (λ k. k + length (drop (suc (suc p)) rs)) short in
    ap (λ k. set (remove rs (suc p)) k c) (pred p)
    ∙ set_split (remove rs (suc p)) p c (omega arith)
    ∙ ap (λ ys. ys ++ c ∷ drop (suc p) (remove rs (suc p))) (take-append-le p (take (suc p) rs) (drop (suc (suc p)) rs) (omega arith) ∙ take-take p (suc p) rs (omega arith))
    ∙ ap (λ ys. take p rs ++ c ∷ ys) (drop_at (take (suc p) rs) (drop (suc (suc p)) rs) (suc p) short)
    ∙ ap (λ k. take k rs ++ c ∷ drop (suc (suc p)) rs) (sym (pred p))

-- a range written before a place
pub set-before : (rs : List Seen) (i : ℕ) (c : Seen) → 0 < i → i ≤ length rs → set rs (i - 1) c ≡ take (i - 1) rs ++ c ∷ drop i rs
set-before rs zero c some l = absurd (omega arith)
set-before rs (suc p) c some l =
    ap (λ k. set rs k c) (pred p) ∙ set_split rs p c (omega arith) ∙ ap (λ k. take k rs ++ c ∷ drop (suc p) rs) (sym (pred p))
