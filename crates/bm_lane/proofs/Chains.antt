-- Operations, one after another.
use Rattle.std.proofs.Common.{◌≡◌, true≢false, ℕ, suc, ◌≤◌, ◌<◌, List, [], ◌∷◌, ◌++◌, length, fold, Option, Some, None, Result, Ok, Err, refl, sym, ap, ◌∙◌, subst, append_assoc, arith}
use Rattle.std.specs.Prelude.{MatchResult, Bool, true, false, not, IsTrue}
use Rattle.std.proofs.lemmas.List.{append-nil}
use Rattle.crossbeam_utils.specs.Register.{TurnsAt}
use Rattle.bm_lane.specs.declared.published.Published.{Published}
use Rattle.bm_lane.specs.declared.published.Addition.{Addition}
use Rattle.bm_session.specs.declared.item.Item.{Item}
use Rattle.bm_store.specs.Kept.{Kept, kept_after}
use Rattle.bm_lane.specs.Fronts.{Front}
use Rattle.bm_lane.specs.Copies.{kept_book, Sight, IsBook, Keeps, Shows}
use Rattle.bm_lane.specs.Additions.{Showing, Chain, last_front, items_of, kept_list}
use Rattle.bm_lane.proofs.Grows.{grows}

abbrev pub Standing : Type 0
Standing = List Kept × ℕ × Front

abbrev pub applied : Standing → Addition → Standing
applied s op = (kept_after s.0 op.item, op.count, op.front)

pub fold_snoc : (a : List Kept) (xs : List Item) (x : Item) → fold kept_after a (xs ++ x ∷ []) ≡ kept_after (fold kept_after a xs) x
fold_snoc a [] x = refl
fold_snoc a (y ∷ xs) x = fold_snoc (kept_after a y) xs x

pub folds : (f : Front) (kept : List Kept) (count : ℕ) (ops : List Addition) → Chain f ops → kept ≡ kept_book f.log → count ≡ length f.log
    → ((fold applied (kept, count, f) ops).0 ≡ kept_book (last_front f ops).log)
    × ((fold applied (kept, count, f) ops).1 ≡ length (last_front f ops).log)
    × ((fold applied (kept, count, f) ops).2 ≡ last_front f ops)
folds f kept count [] ch a b = (a, b, refl)
folds f kept count (op ∷ ops) ch a b =
    folds op.front (kept_after kept op.item) op.count ops ch.3 (ap (λ l. kept_after l op.item) a ∙ sym (fold_snoc [] f.log op.item) ∙ ap kept_book (sym ch.1)) ch.2

pub last_book : (f : Front) (ops : List Addition) → Chain f ops → (last_front f ops).book ≡ f.book
last_book f [] ch = refl
last_book f (op ∷ ops) ch = last_book op.front ops ch.3 ∙ ch.0

pub last_log : (f : Front) (ops : List Addition) → Chain f ops → (last_front f ops).log ≡ f.log ++ items_of ops
last_log f [] ch = sym (append-nil f.log)
last_log f (op ∷ ops) ch = last_log op.front ops ch.3 ∙ ap (λ l. l ++ items_of ops) ch.1 ∙ append_assoc f.log (op.item ∷ []) (items_of ops)

abbrev pub standing : Published → Standing
standing x = (x.book, x.count, x.front)

pub becomes : (x y : Published) (ops : List Addition) → IsBook x → Chain x.front ops → standing y ≡ fold applied (standing x) ops → y.front ≡ last_front x.front ops
becomes x y ops whole ch is = ap (λ (s : Standing). s.2) is ∙ (folds x.front x.book x.count ops ch whole.0 whole.1).2

pub publishes : (seat : ℕ) (v : Sight) (x y : Published) (ops : List Addition) → IsBook x → Chain x.front ops → standing y ≡ fold applied (standing x) ops → TurnsAt Keeps seat v x y Shows
publishes seat v x y ops whole ch is =
    let e = folds x.front x.book x.count ops ch whole.0 whole.1 in
    let f : y.front ≡ last_front x.front ops = becomes x y ops whole ch is in
    let whole' : IsBook y = (ap (λ (s : Standing). s.0) is ∙ e.0 ∙ ap (λ (t : Front). kept_book t.log) (sym f), ap (λ (s : Standing). s.1) is ∙ e.1 ∙ ap (λ (t : Front). length t.log) (sym f)) in
    grows seat v x y (λ _. whole') (ap (λ (t : Front). t.book) f ∙ last_book x.front ops ch)
    (items_of ops, sym (last_log x.front ops ch) ∙ ap (λ (t : Front). t.log) (sym f))

-- what a publish leaves
pub publish_leaves : {A E : Type 0} (r : Result A E) (v w : Sight) (x y : Published) (old new : List Addition) → IsBook x → Chain x.front old
    → MatchResult r (λ _. (standing y ≡ fold applied (standing x) old) × (new ≡ [])) (λ _. (y ≡ x) × (new ≡ old))
    → MatchResult r (λ _. Shows v x y w) (λ _. w ≡ v)
    → MatchResult r (λ _. (w ≡ Some y.front) × IsBook y × (y.front ≡ last_front x.front old) × (new ≡ [])) (λ _. (y ≡ x) × (new ≡ old))
publish_leaves (Ok a) v w x y old new whole ch is shows = (shows.0, shows.1, becomes x y old whole ch is.0, is.1)
publish_leaves (Err e) v w x y old new whole ch is shows = is

pub no_items : (ops : List Addition) → items_of ops ≡ [] → ops ≡ []
no_items [] e = refl
no_items (op ∷ ops) e = absurd cc

pub no_front : (a b : List Addition) → a ++ b ≡ [] → a ≡ []
no_front [] b e = refl
no_front (x ∷ a) b e = absurd cc

-- an item more is held, where none was
pub holds_one : (x : Published) (pend : List Addition) (kept : Option Addition) (all all' : Front) (op : Addition)
    → IsBook x → last_front x.front (pend ++ kept_list kept) ≡ all → items_of (pend ++ kept_list kept) ≡ []
    → all'.book ≡ all.book → all'.log ≡ all.log ++ op.item ∷ [] → op.count ≡ length all'.log → op.front ≡ all'
    → (IsBook x × Chain x.front (pend ++ op ∷ []) × (last_front x.front (pend ++ op ∷ []) ≡ all') × (length (pend ++ op ∷ []) ≤ 1)) × (items_of (pend ++ op ∷ []) ≡ op.item ∷ [])
holds_one x pend kept all all' op whole last none same log count front =
    let empty : pend ++ kept_list kept ≡ [] = no_items (pend ++ kept_list kept) none in
    let p : pend ≡ [] = no_front pend (kept_list kept) empty in
    let was : x.front ≡ all = ap (last_front x.front) (sym empty) ∙ last in
    let P : List Addition → Type 0 = λ l. (IsBook x × Chain x.front (l ++ op ∷ []) × (last_front x.front (l ++ op ∷ []) ≡ all') × (length (l ++ op ∷ []) ≤ 1)) × (items_of (l ++ op ∷ []) ≡ op.item ∷ []) in
    let ch : Chain x.front (op ∷ []) = (
      ap (λ (t : Front). t.book) front ∙ same ∙ ap (λ (t : Front). t.book) (sym was),
      ap (λ (t : Front). t.log) front ∙ log ∙ ap (λ (t : Front). t.log ++ op.item ∷ []) (sym was),
      count ∙ ap (λ (t : Front). length t.log) (sym front),
      tt,
    ) in
    subst P (sym p) ((whole, ch, front, omega arith), refl)

-- none is held where none is pending and none is kept
pub idle_when : (pend : List Addition) (kept : Option Addition) → pend ≡ [] → kept ≡ None → items_of (pend ++ kept_list kept) ≡ []
idle_when pend kept p k = ap (λ (l : List Addition). items_of (l ++ kept_list kept)) p ∙ ap (λ (o : Option Addition). items_of (kept_list o)) k

pub no_length : (ops : List Addition) → ¬ (0 < length ops) → ops ≡ []
no_length [] h = refl
no_length (op ∷ ops) h = absurd (h (omega arith))

abbrev pub shown_as : Published → List Addition → Showing
shown_as y l = record { history = y.front.book; shown = y.front.log; held = items_of l; kept = y.book }

pub showed : {A E : Type 0} (r : Result A E) (x y : Published) (pend new ops : List Addition) (kept : Option Addition) (v : Showing) (w : Sight)
    → pend ++ kept_list kept ≡ ops → kept ≡ None → Chain x.front ops → shown_as x ops ≡ v
    → MatchResult r (λ _. (w ≡ Some y.front) × IsBook y × (y.front ≡ last_front x.front pend) × (new ≡ [])) (λ _. (y ≡ x) × (new ≡ pend))
    → MatchResult r (λ _. shown_as y (new ++ kept_list kept) ≡ record { history = v.history; shown = v.shown ++ v.held; held = []; kept = kept_book (v.shown ++ v.held) }) (λ _. shown_as y (new ++ kept_list kept) ≡ v)
showed (Ok a) x y pend new ops kept v w all none ch is h =
    let same : pend ≡ ops = sym (append-nil pend) ∙ ap (λ (o : Option Addition). pend ++ kept_list o) (sym none) ∙ all in
    let front : y.front ≡ last_front x.front ops = h.2 ∙ ap (last_front x.front) same in
    let b : y.front.book ≡ v.history = ap (λ (f : Front). f.book) front ∙ last_book x.front ops ch ∙ ap (λ (s : Showing). s.history) is in
    let l : y.front.log ≡ v.shown ++ v.held = ap (λ (f : Front). f.log) front ∙ last_log x.front ops ch ∙ ap (λ (s : Showing). s.shown ++ s.held) is in
    let e : items_of (new ++ kept_list kept) ≡ [] = idle_when new kept h.3 none in
    let m : y.book ≡ kept_book (v.shown ++ v.held) = h.1.0 ∙ ap kept_book l in
    λ k. record { history = b k; shown = l k; held = e k; kept = m k }
showed (Err a) x y pend new ops kept v w all none ch is h =
    ap (λ (z : Published). shown_as z (new ++ kept_list kept)) h.0 ∙ ap (λ (l : List Addition). shown_as x (l ++ kept_list kept)) h.1 ∙ ap (shown_as x) all ∙ is

not_both : (b : Bool) → IsTrue (not b) → IsTrue b → ⊥
not_both true h t = true≢false (sym h)
not_both false h t = true≢false (sym t)

one_of : (b : Bool) → (IsTrue b → ⊥) → IsTrue (not b)
one_of true h = absurd (h refl)
one_of false h = refl

pub idle : (b : Bool) (pend : List Addition) (held : List Item) (kept : Option Addition) → (IsTrue b → 0 < length pend) → (0 < length pend → IsTrue b) → kept ≡ None → items_of (pend ++ kept_list kept) ≡ held
    → (IsTrue (not b) → held ≡ []) × (held ≡ [] → IsTrue (not b))
idle b pend held kept up down none is = (
  (λ h. sym is ∙ idle_when pend kept (no_length pend (λ l. not_both b h (down l))) none),
  (λ e. one_of b (λ t. let p : pend ≡ [] = no_front pend (kept_list kept) (no_items (pend ++ kept_list kept) (is ∙ e)) in let l = up t in let q = ap (λ (o : List Addition). length o) p in omega arith)),
)

-- where none is held, all of the history is shown
pub all_shown : (f all : Front) (ops : List Addition) → last_front f ops ≡ all → items_of ops ≡ [] → f ≡ all
all_shown f all ops last none = ap (last_front f) (sym (no_items ops none)) ∙ last

pub length-items_of : (ops : List Addition) → length (items_of ops) ≡ length ops
length-items_of [] = refl
length-items_of (op ∷ ops) = ap suc (length-items_of ops)

pub few : (ops : List Addition) (held : List Item) → length ops ≤ 1 → items_of ops ≡ held → length held ≤ 1
few ops held le is = let a = length-items_of ops in let b : length (items_of ops) ≡ length held = ap (λ (l : List Item). length l) is in omega arith
