-- A log only gets blocks at its end.
use Rattle.std.proofs.Common.{refl, sym, subst, ap, ◌∙◌, append_assoc, ℕ, zero, suc, Bool, true, false, cond, List, [], ◌∷◌, ◌++◌, length, fold, Some, None, map}
use Rattle.std.specs.Prelude.{◌==◌, is_none}
use Rattle.std.proofs.lemmas.List.{append-nil}
use Rattle.std.proofs.lemmas.List.Sums.{fold-append}
use mathlib.Core.List.{IsPrefix}
use Rattle.bm_lines.specs.Lines.{Line}
use Rattle.bm_lines.specs.Names.{Name}
use Rattle.bm_lines.specs.LineBatches.{blocks_under}
use Rattle.bm_lines.specs.declared.line_batch.LogLines.{LogLines}
use Rattle.bm_session.specs.declared.item.Item.{Item}
use Rattle.bm_session.specs.declared.item.Item.TheVariants.{Open, Lines, End, Gone}
use Rattle.bm_session.specs.declared.results.Results.{Results}
use Rattle.bm_session.specs.declared.results.Results.TheVariants.{Retry}
use Rattle.bm_store.specs.Book.{Logs, no_logs, with_batch, with_end, change_at, after_item, book, blocks_in}
use Rattle.bm_store.specs.Laws.{LogsGrow}

same : (bs : List (List Line)) → IsPrefix bs bs
same bs = ([], append-nil bs)

-- a log grows at its end, whatever comes of its command
abbrev Grows : (Logs → Logs) → Type 0
Grows f = (l : Logs) (name : Name) → IsPrefix (l.blocks name) ((f l).blocks name)

with_batch-grows : (batch : List LogLines) → Grows (with_batch batch)
with_batch-grows batch l name = go (is_none l.ended)
  where
    go : (b : Bool) → IsPrefix (l.blocks name) ((cond b (record { blocks = λ n. l.blocks n ++ blocks_under n batch; ended = None }) l).blocks name)
    go true = (blocks_under name batch, refl)
    go false = same (l.blocks name)

with_end-grows : (r : Results) → Grows (with_end r)
with_end-grows r l name = go (is_none l.ended)
  where
    go : (b : Bool) → IsPrefix (l.blocks name) ((cond b (record { blocks = l.blocks; ended = Some r }) l).blocks name)
    go true = same (l.blocks name)
    go false = same (l.blocks name)

change-grows : (f : Logs → Logs) → Grows f → (j : ℕ) (ls : List Logs) (k : ℕ) (name : Name) → IsPrefix (blocks_in ls k name) (blocks_in (change_at j f ls) k name)
change-grows f g j [] k name = same (blocks_in [] k name)
change-grows f g zero (l ∷ ls) zero name = g l name
change-grows f g zero (l ∷ ls) (suc k) name = same (blocks_in ls k name)
change-grows f g (suc j) (l ∷ ls) zero name = same (l.blocks name)
change-grows f g (suc j) (l ∷ ls) (suc k) name = change-grows f g j ls k name

map-grows : (f : Logs → Logs) → Grows f → (ls : List Logs) (k : ℕ) (name : Name) → IsPrefix (blocks_in ls k name) (blocks_in (map f ls) k name)
map-grows f g [] k name = same (blocks_in [] k name)
map-grows f g (l ∷ ls) zero name = g l name
map-grows f g (l ∷ ls) (suc k) name = map-grows f g ls k name

open-grows : (ls : List Logs) (k : ℕ) (name : Name) → IsPrefix (blocks_in ls k name) (blocks_in (ls ++ no_logs ∷ []) k name)
open-grows [] zero name = same []
open-grows [] (suc k) name = same []
open-grows (l ∷ ls) zero name = same (l.blocks name)
open-grows (l ∷ ls) (suc k) name = open-grows ls k name

item-grows : (ls : List Logs) (i : Item) (k : ℕ) (name : Name) → IsPrefix (blocks_in ls k name) (blocks_in (after_item ls i) k name)
item-grows ls (Open j) k name = go (j == length ls)
  where
    go : (b : Bool) → IsPrefix (blocks_in ls k name) (blocks_in (cond b (ls ++ no_logs ∷ []) ls) k name)
    go true = open-grows ls k name
    go false = same (blocks_in ls k name)
item-grows ls (Lines j batch) k name = change-grows (with_batch batch) (with_batch-grows batch) j ls k name
item-grows ls (End j r) k name = change-grows (with_end r) (with_end-grows r) j ls k name
item-grows ls Gone k name = map-grows (with_end Retry) (with_end-grows Retry) ls k name

after : (bs cs ds : List (List Line)) → IsPrefix bs cs → IsPrefix cs ds → IsPrefix bs ds
after bs cs ds p q = (p.0 ++ q.0, sym (append_assoc bs p.0 q.0) ∙ (ap (λ es. es ++ q.0) p.1 ∙ q.1))

items-grow : (js : List Item) (ls : List Logs) (k : ℕ) (name : Name) → IsPrefix (blocks_in ls k name) (blocks_in (fold after_item ls js) k name)
items-grow [] ls k name = same (blocks_in ls k name)
items-grow (j ∷ js) ls k name =
    after (blocks_in ls k name) (blocks_in (after_item ls j) k name) (blocks_in (fold after_item (after_item ls j) js) k name) (item-grows ls j k name) (items-grow js (after_item ls j) k name)

-- the law
pub logs_grow : LogsGrow
logs_grow is js k name = subst (λ ls. IsPrefix (blocks_in (book is) k name) (blocks_in ls k name)) (sym (fold-append after_item [] is js)) (items-grow js (book is) k name)
