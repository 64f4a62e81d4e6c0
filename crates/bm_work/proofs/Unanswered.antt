-- The requests of a worker that have no answer.
use Rattle.std.proofs.Common.{◌≡◌, ℕ, ◌+◌, ◌<◌, ◌≤◌, ◌==◌, ◌||◌, Bool, true, false, not, List, [], ◌∷◌, ◌++◌, length, filter, All, if◌then◌else◌, refl, sym, ap, ◌∙◌, arith}
use Rattle.std.proofs.Math.Bool.{or-false}
use Rattle.std.proofs.lemmas.Bool.Decides.{nat_tests}
use Rattle.std.proofs.lemmas.Cmp.{nat_eq_equiv}
use Rattle.std.proofs.lemmas.List.Elements.{All-head, All-tail, filter-append}
use Rattle.std.proofs.lemmas.List.Folds.{list_any-append}
use Rattle.std.specs.List.{list_any}
use Rattle.bm_work.specs.declared.sent.Sent.{Sent}
use Rattle.bm_work.specs.Stream.{Report, sent, stream, stream_from, without_answer}
use Rattle.bm_work.proofs.Streams.{streams_join}

-- a number that is not below that of the next request is none of the answered
is_late : (answered : List ℕ) (next n : ℕ) → All (λ m. m < next) answered → next ≤ n → list_any (λ m. m == n) answered ≡ false
is_late [] next n h l = refl
is_late (m ∷ ms) next n h l =
    let less : m < next = All-head (λ m. m < next) m ms h in
    let other : (m == n) ≡ false = grind (arith, nat_tests) in
    rw other (is_late ms next n (All-tail (λ m. m < next) m ms h) l)

late-unanswered : (answered : List ℕ) (next n : ℕ) (rs : List Report) → All (λ m. m < next) answered → next ≤ n → without_answer answered (stream_from n rs) ≡ stream_from n rs
late-unanswered answered next n [] h l = refl
late-unanswered answered next n (r ∷ rs) h l =
    rw (is_late answered next n h l) (ap (λ rest. sent n r ∷ rest) (late-unanswered answered next (n + 1) rs h (omega arith)))

-- what is reported later has no answer yet
pub unanswered-more : (answered : List ℕ) (reports rs : List Report) → All (λ m. m < length reports) answered
    → without_answer answered (stream (reports ++ rs)) ≡ without_answer answered (stream reports) ++ stream_from (length reports) rs
unanswered-more answered reports rs h =
    let from : 0 + length reports ≡ length reports = omega arith in
    ap (without_answer answered) (streams_join 0 reports rs ∙ ap (λ n. stream reports ++ stream_from n rs) from)
    ∙ (filter-append (λ (s : Sent). not (list_any (λ n. n == s.seq) answered)) (stream reports) (stream_from (length reports) rs)
    ∙ ap (λ more. without_answer answered (stream reports) ++ more) (late-unanswered answered (length reports) (length reports) rs h (omega arith)))

fewer-step : (a b : Bool) (s : Sent) (q : Sent → Bool) (kept rest : List Sent) → q s ≡ not b → filter q kept ≡ rest
    → filter q (if not a then s ∷ kept else kept) ≡ (if not (a || b) then s ∷ rest else rest)
fewer-step true b s q kept rest e h = h
fewer-step false true s q kept rest e h = rw e h
fewer-step false false s q kept rest e h = rw e (ap (λ r. s ∷ r) h)

one-more : (answered : List ℕ) (n m : ℕ) → list_any (λ k. k == m) (answered ++ n ∷ []) ≡ (list_any (λ k. k == m) answered || (n == m))
one-more answered n m =
    list_any-append (λ k. k == m) answered (n ∷ []) ∙ ap (λ b. list_any (λ k. k == m) answered || b) (or-false (n == m))

-- one more answered request is one that is missing
pub unanswered-fewer : (answered : List ℕ) (n : ℕ) (requests : List Sent)
    → filter (λ (s : Sent). not (s.seq == n)) (without_answer answered requests) ≡ without_answer (answered ++ n ∷ []) requests
unanswered-fewer answered n [] = refl
unanswered-fewer answered n (s ∷ requests) =
    let rest = without_answer (answered ++ n ∷ []) requests in
    fewer-step (list_any (λ k. k == s.seq) answered) (n == s.seq) s (λ (r : Sent). not (r.seq == n)) (without_answer answered requests) rest
    (ap not (nat_eq_equiv.symm s.seq n)) (unanswered-fewer answered n requests)
    ∙ ap (λ b. if not b then s ∷ rest else rest) (sym (one-more answered n s.seq))
