-- What a book keeps of items means the book of those items.
use Rattle.std.proofs.Common.{◌≡◌, ◌⊎◌, ℕ, List, [], ◌∷◌, fold, Option, Some, None, option_map, Result, Ok, Err, refl, ap, subst, ◌∙◌}
use Rattle.std.specs.Prelude.{MatchOption}
use Rattle.bm_lines.specs.Names.{Name}
use Rattle.bm_session.specs.declared.item.Item.{Item}
use Rattle.bm_store.specs.declared.chunk.Chunk.{Chunk}
use Rattle.bm_store.specs.declared.chunk.ViewRefusal.{ViewRefusal}
use Rattle.bm_store.specs.declared.chunk.ViewRefusal.TheVariants.{NoLog, Mem}
use Rattle.bm_store.specs.declared.portion.Portion.{Portion}
use Rattle.bm_store.specs.Kept.{Kept, logs_in, kept_after}
use Rattle.bm_store.specs.Book.{Logs, book, after_item, chunk_in, chunk_of, state_in}
use Rattle.bm_store.specs.Portions.{LooksAt, LooksAtPortion}
use Rattle.bm_store.proofs.Meaning.{kept_books_mean_logs}
use Rattle.bm_lane.specs.Answers.{Answered, lines_of_book, state_of_book}
use Rattle.bm_lane.specs.Copies.{kept_book}

kept_fold : (ks : List Kept) (is : List Item) → logs_in (fold kept_after ks is) ≡ fold after_item (logs_in ks) is
kept_fold ks [] = refl
kept_fold ks (i ∷ is) = kept_fold (kept_after ks i) is ∙ ap (λ (b : List Logs). fold after_item b is) (kept_books_mean_logs ks i)

pub kept_is_book : (is : List Item) → logs_in (kept_book is) ≡ book is
kept_is_book is = kept_fold [] is

-- and so are its states
pub state_is_kept : (ks : List Kept) (is : List Item) (k : ℕ) (name : Name) → ks ≡ kept_book is → state_in (logs_in ks) k name ≡ state_of_book is k name
state_is_kept ks is k name h = ap (λ (b : List Logs). state_in b k name) (ap logs_in h ∙ kept_is_book is)

-- a slice as an answer
pub answers : {A B : Type 0} (f : A → B) (o : Option A) (r : Result B ViewRefusal) → MatchOption o (r ≡ Err NoLog) (λ a. (r ≡ Ok (f a)) ⊎ (r ≡ Err Mem)) → Answered (option_map f o) r
answers f None r h = h
answers f (Some a) r h = h

-- so a look at lines is answered from the book of those items
pub lines_are_kept : (ks : List Kept) (is : List Item) (k : ℕ) (name : Name) (off lim : ℕ) (r : Result Chunk ViewRefusal) → ks ≡ kept_book is → LooksAt r off (chunk_in (logs_in ks) k name off lim)
    → Answered (lines_of_book is k name off lim) r
lines_are_kept ks is k name off lim r same h =
    subst (λ (b : List Logs). Answered (option_map (chunk_of off) (chunk_in b k name off lim)) r) (ap logs_in same ∙ kept_is_book is) (answers (chunk_of off) (chunk_in (logs_in ks) k name off lim) r h)

-- and so is one at a portion
pub portion_is_kept : (ks : List Kept) (is : List Item) (k : ℕ) (name : Name) (off lim skip most : ℕ) (r : Result Portion ViewRefusal) → ks ≡ kept_book is
    → LooksAtPortion (logs_in ks) k name off lim skip most r → LooksAtPortion (book is) k name off lim skip most r
portion_is_kept ks is k name off lim skip most r same h = subst (λ (b : List Logs). LooksAtPortion b k name off lim skip most r) (ap logs_in same ∙ kept_is_book is) h
