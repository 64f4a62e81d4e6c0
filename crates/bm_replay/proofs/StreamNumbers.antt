-- The numbers of requests, and which report each request is of.
use Rattle.std.proofs.Common.{◌≡◌, refl, sym, ◌∙◌, ap, subst, ℕ, zero, suc, ◌+◌, Bool, true, false, cond, not, ◌||◌, List, [], ◌∷◌, ◌++◌, length, take, Some, arith, append_assoc}
use Rattle.std.specs.Prelude.{◌==◌, slice_get, filter, option_map, unwrap_or}
use Rattle.std.specs.List.{list_any, AllByRecursion}
use Rattle.std.proofs.lemmas.Bool.{eqb-true}
use Rattle.std.proofs.lemmas.List.{length_push, map-append, take-map}
use Rattle.bm_session.proofs.Snoc.{snoc_induction}
use Rattle.bm_session.specs.Trace.{below}
use Rattle.bm_work.specs.Core.{numbers}
use Rattle.bm_work.specs.declared.sent.Sent.{Sent}
use Rattle.bm_work.specs.Stream.{Report, sent, stream, stream_from, without_answer}
use Rattle.bm_replay.specs.Laws.{IsSentOf}
use Rattle.bm_replay.proofs.Links.{open_numbers}

pub numbers-append : (xs ys : List Sent) → numbers (xs ++ ys) ≡ numbers xs ++ numbers ys
numbers-append xs ys = map-append (λ (s : Sent). s.seq) xs ys

pub next-number : (xs : List Sent) (i n : ℕ) → unwrap_or (option_map (λ (s : Sent). s.seq == n) (slice_get xs i)) false ≡ true → slice_get (numbers xs) i ≡ Some n
next-number [] i n h = cc
next-number (x ∷ xs) zero n h = ap Some (eqb-true x.seq n h)
next-number (x ∷ xs) (suc i) n h = next-number xs i n h

any-number : (xs : List Sent) (n : ℕ) → list_any (λ (s : Sent). s.seq == n) xs ≡ list_any (λ m. m == n) (numbers xs)
any-number [] n = refl
any-number (x ∷ xs) n = ap (λ b. (x.seq == n) || b) (any-number xs n)

pub arrived-number : (xs : List Sent) (a n : ℕ) → list_any (λ (s : Sent). s.seq == n) (take a xs) ≡ true → list_any (λ m. m == n) (take a (numbers xs)) ≡ true
arrived-number xs a n h = ap (list_any (λ m. m == n)) (take-map (λ (s : Sent). s.seq) a xs) ∙ sym (any-number (take a xs) n) ∙ h

-- the numbers of a stream are 0, 1, 2 and so on

stream-push : (n : ℕ) (rs : List Report) (r : Report) → stream_from n (rs ++ r ∷ []) ≡ stream_from n rs ++ sent (n + length rs) r ∷ []
stream-push n [] r = ap (λ m. sent m r ∷ []) (omega arith)
stream-push n (q ∷ rs) r =
    let e : n + 1 + length rs ≡ n + length (q ∷ rs) = omega arith in
    ap (λ l. sent n q ∷ l) (stream-push (n + 1) rs r ∙ ap (λ m. stream_from (n + 1) rs ++ sent m r ∷ []) e)

numbers-stream : (rs : List Report) → numbers (stream rs) ≡ below (length rs)
numbers-stream = snoc_induction (λ rs. numbers (stream rs) ≡ below (length rs)) refl step
  where
    step : (rs : List Report) (r : Report) → numbers (stream rs) ≡ below (length rs) → numbers (stream (rs ++ r ∷ [])) ≡ below (length (rs ++ r ∷ []))
    step rs r h =
        let size : length (rs ++ r ∷ []) ≡ length rs + 1 = length_push rs r in
        let more : suc (length rs) ≡ length (rs ++ r ∷ []) = omega arith in
        let last : 0 + length rs ≡ length rs = omega arith in
        ap numbers (stream-push 0 rs r) ∙ numbers-append (stream rs) (sent (0 + length rs) r ∷ []) ∙ ap (λ ns. ns ++ (0 + length rs) ∷ []) h
        ∙ ap (λ n. below (length rs) ++ n ∷ []) last ∙ ap below more

numbers-open : (answered : List ℕ) (xs : List Sent) → numbers (without_answer answered xs) ≡ filter (λ n. not (list_any (λ m. m == n) answered)) (numbers xs)
numbers-open answered [] = refl
numbers-open answered (x ∷ xs) = go (numbers-open answered xs) (not (list_any (λ m. m == x.seq) answered))
  where
    go : numbers (without_answer answered xs) ≡ filter (λ n. not (list_any (λ m. m == n) answered)) (numbers xs) → (b : Bool)
        → numbers (cond b (x ∷ without_answer answered xs) (without_answer answered xs)) ≡ cond b (x.seq ∷ filter (λ n. not (list_any (λ m. m == n) answered)) (numbers xs)) (filter (λ n. not (list_any (λ m. m == n) answered)) (numbers xs))
    go rest true = ap (λ ns. x.seq ∷ ns) rest
    go rest false = rest

pub numbers-unanswered : (answered : List ℕ) (rs : List Report) → numbers (without_answer answered (stream rs)) ≡ open_numbers answered (length rs)
numbers-unanswered answered rs = numbers-open answered (stream rs) ∙ ap (filter (λ n. not (list_any (λ m. m == n) answered))) (numbers-stream rs)

-- which report a request is of

get-front : {A : Type 0} (xs ys : List A) (i : ℕ) (x : A) → slice_get xs i ≡ Some x → slice_get (xs ++ ys) i ≡ Some x
get-front [] ys i x h = cc
get-front (y ∷ xs) ys zero x h = h
get-front (y ∷ xs) ys (suc i) x h = get-front xs ys i x h

get-next : {A : Type 0} (xs : List A) (y : A) (ys : List A) → slice_get (xs ++ y ∷ ys) (length xs) ≡ Some y
get-next [] y ys = refl
get-next (x ∷ xs) y ys = get-next xs y ys

pub sent-still : (rs more : List Report) (xs : List Sent) → AllByRecursion (IsSentOf rs) xs → AllByRecursion (IsSentOf (rs ++ more)) xs
sent-still rs more [] h = tt
sent-still rs more (x ∷ xs) h = ((h.0.0, get-front rs more x.seq h.0.0 h.0.1, h.0.2), sent-still rs more xs h.1)

pub all-append : (P : Sent → Type 0) (xs ys : List Sent) → AllByRecursion P xs → AllByRecursion P ys → AllByRecursion P (xs ++ ys)
all-append P [] ys h g = g
all-append P (x ∷ xs) ys h g = (h.0, all-append P xs ys h.1 g)

all-filter : (P : Sent → Type 0) (p : Sent → Bool) (xs : List Sent) → AllByRecursion P xs → AllByRecursion P (filter p xs)
all-filter P p [] h = tt
all-filter P p (x ∷ xs) h = go (all-filter P p xs h.1) (p x)
  where
    go : AllByRecursion P (filter p xs) → (b : Bool) → AllByRecursion P (cond b (x ∷ filter p xs) (filter p xs))
    go rest true = (h.0, rest)
    go rest false = rest

pub sent-next : (rs more : List Report) → AllByRecursion (IsSentOf (rs ++ more)) (stream_from (length rs) more)
sent-next rs [] = tt
sent-next rs (r ∷ more) =
    let rest : AllByRecursion (IsSentOf ((rs ++ r ∷ []) ++ more)) (stream_from (length (rs ++ r ∷ [])) more) = sent-next (rs ++ r ∷ []) more in
    let placed : AllByRecursion (IsSentOf (rs ++ r ∷ more)) (stream_from (length (rs ++ r ∷ [])) more) =
    subst (λ all. AllByRecursion (IsSentOf all) (stream_from (length (rs ++ r ∷ [])) more)) (append_assoc rs (r ∷ []) more) rest in
    ((r, get-next rs r more, refl), subst (λ n. AllByRecursion (IsSentOf (rs ++ r ∷ more)) (stream_from n more)) (length_push rs r) placed)

pub sent-unanswered : (answered : List ℕ) (rs : List Report) → AllByRecursion (IsSentOf rs) (without_answer answered (stream rs))
sent-unanswered answered rs = all-filter (IsSentOf rs) (λ (s : Sent). not (list_any (λ n. n == s.seq) answered)) (stream rs) (sent-next [] rs)
