-- What the book of a trace answers.
use Rattle.std.specs.Prelude.{option_and_then}
use Rattle.std.proofs.Common.{◌≡◌, refl, sym, ◌∙◌, ap, ℕ, zero, suc, ◌≤◌, ◌<◌, true, false, cond, not, ◌||◌, ◌&&◌, List, [], ◌∷◌, ◌++◌, length, Some, None, arith, inl, inr}
use Rattle.std.specs.Prelude.{◌⊎◌, nat_lt, option_map, slice_get, bytes_eq}
use Rattle.std.proofs.lemmas.Bool.{cases_lt}
use Rattle.std.proofs.lemmas.Bool.Decides.{nat_tests}
use Rattle.std.proofs.lemmas.List.{length-map}
use Rattle.std.proofs.lemmas.Option.{slice_get_past, slice_get-map}
use Rattle.bm_lines.specs.Names.{Name, stdio}
use Rattle.bm_session.specs.Trace.{Trace, commands, is_empty, blocks, log, below, visible, slice}
use Rattle.bm_store.specs.Book.{chunk_log, chunk_in, logs, logs_of}
use Rattle.bm_store.specs.Laws.{look_at, BooksAnswerLooks}
use Rattle.bm_store.proofs.Books.{length-below, visible_books_have_the_logs}

-- a book answers what the trace says

below-get : (n k : ℕ) → k < n → slice_get (below n) k ≡ Some k
below-get zero k h = absurd (omega arith)
below-get (suc n) k h = go (cases_lt k n) (λ l. below-get n k l)
  where
    left : {A : Type 0} (xs ys : List A) (i : ℕ) (x : A) → slice_get xs i ≡ Some x → slice_get (xs ++ ys) i ≡ Some x
    left [] ys i x g = cc
    left (z ∷ zs) ys zero x g = g
    left (z ∷ zs) ys (suc i) x g = left zs ys i x g

    last : {A : Type 0} (xs : List A) (y : A) (i : ℕ) → i ≡ length xs → slice_get (xs ++ y ∷ []) i ≡ Some y
    last [] y zero g = refl
    last [] y (suc i) g = absurd (omega arith)
    last (z ∷ zs) y zero g = absurd (omega arith)
    last (z ∷ zs) y (suc i) g = last zs y i (omega arith)

    go : (k < n) ⊎ (n ≤ k) → (k < n → slice_get (below n) k ≡ Some k) → slice_get (below n ++ n ∷ []) k ≡ Some k
    go (inl l) ih = left (below n) (n ∷ []) k k (ih l)
    go (inr l) ih =
        let same : k ≡ n = omega arith in
        let size : length (below n) ≡ n = length-below n in
        last (below n) n k (omega arith) ∙ ap Some (sym same)

logs-answer : (t : Trace) (k : ℕ) (name : Name) (off lim : ℕ) → chunk_in (logs t) k name off lim ≡ look_at t k name off lim
logs-answer t k name off lim = go (cases_lt k (commands t))
  where
    go : (k < commands t) ⊎ (commands t ≤ k) → option_and_then (chunk_log name off lim) (slice_get (logs t) k) ≡ look_at t k name off lim
    go (inl l) =
        let at : slice_get (logs t) k ≡ Some (logs_of t k) = slice_get-map (logs_of t) (below (commands t)) k ∙ ap (option_map (logs_of t)) (below-get (commands t) k l) in
        let yes : nat_lt k (commands t) ≡ true = grind (arith, nat_tests) in
        ap (option_and_then (chunk_log name off lim)) at ∙ sym (ap (λ b. cond (b && (bytes_eq name stdio || not (is_empty (blocks t k name)))) (Some (slice (log t k name) off lim)) None) yes)
    go (inr l) =
        let size : length (logs t) ≡ commands t = length-map (below (commands t)) (logs_of t) ∙ length-below (commands t) in
        let at : slice_get (logs t) k ≡ None = slice_get_past (logs t) k (omega arith) in
        let no : nat_lt k (commands t) ≡ false = grind (arith, nat_tests) in
        ap (option_and_then (chunk_log name off lim)) at ∙ sym (ap (λ b. cond (b && (bytes_eq name stdio || not (is_empty (blocks t k name)))) (Some (slice (log t k name) off lim)) None) no)

-- the law: the book of the items that were shown answers as the visible trace does
pub books_answer_looks : BooksAnswerLooks
books_answer_looks t d k name off lim h l = ap (λ b. chunk_in b k name off lim) (visible_books_have_the_logs t d h l) ∙ logs-answer (visible t d) k name off lim
