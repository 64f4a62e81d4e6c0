-- The numbers of the requests that pass over a connection.
use Rattle.std.proofs.Common.{◌≡◌, refl, sym, ◌∙◌, ap, subst, ℕ, zero, suc, ◌+◌, ◌≤◌, ◌<◌, Bool, true, false, cond, not, List, [], ◌∷◌, ◌++◌, length, take, Some, arith, inl, inr}
use Rattle.std.specs.Prelude.{◌⊎◌, ◌==◌, slice_get, filter}
use Rattle.std.specs.List.{list_any}
use Rattle.std.proofs.lemmas.Bool.{eqb-true, or_cases, cases_lt}
use Rattle.std.proofs.lemmas.List.{append-nil, length_push}
use Rattle.std.proofs.lemmas.Option.{slice_get_within}
use Rattle.bm_session.proofs.Snoc.{list_any-push, filter-push}
use Rattle.bm_session.specs.Trace.{below}
use Rattle.bm_replay.proofs.Lists.{slice_get-push}

-- a connection, by the numbers of its requests
pub record Passage : Type 0 where
  pub sent : List ℕ
  pub arrived : ℕ
  pub answered : List ℕ

abbrev nothing_passed : Passage
nothing_passed = record { sent = []; arrived = 0; answered = [] }

abbrev pub sending : List ℕ → Passage → Passage
sending ns l = record { sent = l.sent ++ ns; arrived = l.arrived; answered = l.answered }

-- of len requests the first h were taken: first some of these were sent, up to the turn, then the
-- others in order
pub record IsInOrder (h len : ℕ) (l : Passage) : Type 0 where
  pub turn : ℕ
  pub few : l.arrived ≤ turn
  pub inside : h ≤ len
  pub size : length l.sent + h ≡ turn + len
  pub old : (i n : ℕ) → slice_get l.sent i ≡ Some n → i < turn → n < h
  pub rest : (i n : ℕ) → slice_get l.sent i ≡ Some n → turn ≤ i → n + turn ≡ h + i
  pub known : (n : ℕ) → list_any (λ m. m == n) l.answered ≡ true → n < h

pub in-order-at-first : IsInOrder 0 0 nothing_passed
in-order-at-first = record {
  turn = 0;
  few = omega arith;
  inside = omega arith;
  size = refl;
  old = λ i n g l. cc;
  rest = λ i n g l. cc;
  known = λ n g. cc;
}

pub sends : (h len : ℕ) (l : Passage) → IsInOrder h len l → IsInOrder h (len + 1) (sending (len ∷ []) l)
sends h len l s = record {
  turn = s.turn;
  few = s.few;
  inside = let a : h ≤ len = s.inside in omega arith;
  size = let a : length l.sent + h ≡ s.turn + len = s.size in let b : length (l.sent ++ len ∷ []) ≡ length l.sent + 1 = length_push l.sent len in omega arith;
  old = λ i n g less. elim (slice_get-push l.sent len i n g) [
    | inl x ↦ s.old i n x less
    | inr x ↦ (let a : length l.sent + h ≡ s.turn + len = s.size in let b : h ≤ len = s.inside in let e : i ≡ length l.sent = x.0 in absurd (omega arith))
  ];
  rest = λ i n g more. elim (slice_get-push l.sent len i n g) [
    | inl x ↦ s.rest i n x more
    | inr x ↦ (let a : length l.sent + h ≡ s.turn + len = s.size in let e : i ≡ length l.sent = x.0 in let same : len ≡ n = x.1 in omega arith)
  ];
  known = s.known;
}

abbrev pub arrives : Passage → Passage
arrives l = record { sent = l.sent; arrived = l.arrived + 1; answered = l.answered }

-- the next to arrive was taken before, or is the next to be taken
pub next-is : (h len : ℕ) (l : Passage) (n : ℕ) → IsInOrder h len l → slice_get l.sent l.arrived ≡ Some n → (n < len) × ((n < h) ⊎ (n ≡ h))
next-is h len l n s g = go (cases_lt l.arrived s.turn)
  where
    go : (l.arrived < s.turn) ⊎ (s.turn ≤ l.arrived) → (n < len) × ((n < h) ⊎ (n ≡ h))
    go (inl x) = let a : n < h = s.old l.arrived n g x in let b : h ≤ len = s.inside in (omega arith, inl a)
    go (inr x) =
        let a : n + s.turn ≡ h + l.arrived = s.rest l.arrived n g x in
        let b : l.arrived ≤ s.turn = s.few in
        let d : length l.sent + h ≡ s.turn + len = s.size in
        let e : l.arrived < length l.sent = slice_get_within l.sent l.arrived n g in
        (omega arith, inr (omega arith))

pub arrives-again : (h len : ℕ) (l : Passage) (n : ℕ) → IsInOrder h len l → slice_get l.sent l.arrived ≡ Some n → n < h → IsInOrder h len (arrives l)
arrives-again h len l n s g less = record {
  turn = s.turn;
  few = go (cases_lt l.arrived s.turn);
  inside = s.inside;
  size = s.size;
  old = s.old;
  rest = s.rest;
  known = s.known;
}
  where
    go : (l.arrived < s.turn) ⊎ (s.turn ≤ l.arrived) → l.arrived + 1 ≤ s.turn
    go (inl x) = omega arith
    go (inr x) = let a : n + s.turn ≡ h + l.arrived = s.rest l.arrived n g x in let b : l.arrived ≤ s.turn = s.few in absurd (omega arith)

pub arrives-next : (h len : ℕ) (l : Passage) (n : ℕ) → IsInOrder h len l → slice_get l.sent l.arrived ≡ Some n → n ≡ h → IsInOrder (h + 1) len (arrives l)
arrives-next h len l n s g same = record {
  turn = s.turn + 1;
  few = let b : l.arrived ≤ s.turn = s.few in omega arith;
  inside = let b : n < len = (next-is h len l n s g).0 in omega arith;
  size = let a : length l.sent + h ≡ s.turn + len = s.size in omega arith;
  old = λ i m x less. old i m x (cases_lt i s.turn) less;
  rest = λ i m x more. let a : m + s.turn ≡ h + i = s.rest i m x (omega arith) in omega arith;
  known = λ m x. let a : m < h = s.known m x in omega arith;
}
  where
    old : (i m : ℕ) → slice_get l.sent i ≡ Some m → (i < s.turn) ⊎ (s.turn ≤ i) → i < s.turn + 1 → m < h + 1
    old i m x (inl a) less = let b : m < h = s.old i m x a in omega arith
    old i m x (inr a) less = let b : m + s.turn ≡ h + i = s.rest i m x a in omega arith

-- what is among the first a elements
among : (P : ℕ → Type 0) (xs : List ℕ) (a n : ℕ) → ((i m : ℕ) → slice_get xs i ≡ Some m → i < a → P m) → list_any (λ m. m == n) (take a xs) ≡ true → P n
among P [] zero n h g = cc
among P [] (suc a) n h g = cc
among P (y ∷ ys) zero n h g = cc
among P (y ∷ ys) (suc a) n h g = elim (or_cases (y == n) (list_any (λ m. m == n) (take a ys)) g) [
  | inl e ↦ subst P (eqb-true y n e) (h zero y refl (omega arith))
  | inr e ↦ among P ys a n (λ i m x l. h (suc i) m x (omega arith)) e
]

pub learns : (h len : ℕ) (l : Passage) (n : ℕ) → IsInOrder h len l → list_any (λ m. m == n) (take l.arrived l.sent) ≡ true → IsInOrder h len (record { sent = l.sent; arrived = l.arrived; answered = l.answered ++ n ∷ [] })
learns h len l n s g = record {
  turn = s.turn;
  few = s.few;
  inside = s.inside;
  size = s.size;
  old = s.old;
  rest = s.rest;
  known = λ k x. elim (or_cases (list_any (λ m. m == k) l.answered) (n == k) (sym (list_any-push (λ m. m == k) l.answered n) ∙ x)) [
    | inl a ↦ s.known k a
    | inr a ↦ subst (λ i. i < h) (eqb-true n k a) (among (λ m. m < h) l.sent l.arrived n (λ i m y less. let b : l.arrived ≤ s.turn = s.few in s.old i m y (omega arith)) g)
  ];
}

-- a connection that resumes

abbrev pub open_numbers : List ℕ → ℕ → List ℕ
open_numbers answered len = filter (λ n. not (list_any (λ m. m == n) answered)) (below len)

abbrev pub resume : List ℕ → ℕ → Passage
resume answered len = record { sent = open_numbers answered len; arrived = 0; answered = answered }

less-below : (p : ℕ → Bool) (len i n : ℕ) → slice_get (filter p (below len)) i ≡ Some n → n < len
less-below p zero i n g = cc
less-below p (suc len) i n g = go (less-below p len i n) (p len) (sym (ap (λ xs. slice_get xs i) (filter-push p (below len) len)) ∙ g)
  where
    go : (slice_get (filter p (below len)) i ≡ Some n → n < len) → (b : Bool) → slice_get (filter p (below len) ++ cond b (len ∷ []) []) i ≡ Some n → n < suc len
    go ih true x = elim (slice_get-push (filter p (below len)) len i n x) [
      | inl y ↦ (let a : n < len = ih y in omega arith)
      | inr y ↦ (let a : len ≡ n = y.1 in omega arith)
    ]
    go ih false x = let a : n < len = ih (sym (ap (λ xs. slice_get xs i) (append-nil (filter p (below len)))) ∙ x) in omega arith

pub resumes : (answered : List ℕ) (h : ℕ) → ((n : ℕ) → list_any (λ m. m == n) answered ≡ true → n < h) → (d len : ℕ) → len ≡ h + d → IsInOrder h len (resume answered len)
resumes answered h known zero len e = record {
  turn = length (open_numbers answered len);
  few = omega arith;
  inside = omega arith;
  size = omega arith;
  old = λ i n g l. let a : n < len = less-below (λ n. not (list_any (λ m. m == n) answered)) len i n g in omega arith;
  rest = λ i n g l. let a : i < length (open_numbers answered len) = slice_get_within (open_numbers answered len) i n g in absurd (omega arith);
  known = known;
}
resumes answered h known (suc d) len e = subst (λ m. IsInOrder h m (resume answered m)) (sym last) (now (resumes answered h known d (h + d) refl))
  where
    prev : ℕ
    prev = h + d

    last : len ≡ suc (h + d)
    last = omega arith

    free : (b : Bool) → list_any (λ m. m == h + d) answered ≡ b → b ≡ false
    free false x = refl
    free true x = let a : h + d < h = known (h + d) x in absurd (omega arith)

    more : open_numbers answered (suc (h + d)) ≡ open_numbers answered (h + d) ++ (h + d) ∷ []
    more = filter-push (λ n. not (list_any (λ m. m == n) answered)) (below (h + d)) (h + d) ∙ ap (λ b. open_numbers answered (h + d) ++ cond (not b) ((h + d) ∷ []) []) (free (list_any (λ m. m == h + d) answered) refl)

    size : h + d + 1 ≡ suc (h + d)
    size = omega arith

    now : IsInOrder h (h + d) (resume answered (h + d)) → IsInOrder h (suc (h + d)) (resume answered (suc (h + d)))
    now before = subst (λ ns. IsInOrder h (suc (h + d)) (record { sent = ns; arrived = 0; answered = answered })) (sym more) (subst (λ m. IsInOrder h m (sending ((h + d) ∷ []) (resume answered (h + d)))) size (sends h (h + d) (resume answered (h + d)) before))
