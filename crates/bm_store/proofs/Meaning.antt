-- What a book in memory means.
use Rattle.std.proofs.Common.{◌≡◌, refl, sym, ◌∙◌, ap, ℕ, zero, suc, ◌+◌, ◌≤◌, ◌<◌, Bool, true, false, cond, not, ◌||◌, List, [], ◌∷◌, ◌++◌, length, take, drop, get_or, set, Option, Some, None, arith}
use Rattle.std.specs.Prelude.{◌==◌, map, is_none, bytes_eq, slice_get, option_and_then, find}
use Rattle.std.proofs.lemmas.List.{length-map, map-append}
use mathlib.Core.Path.{fun_ext}
use Rattle.bm_lines.specs.Names.{Name, stdio}
use Rattle.bm_lines.specs.LineBatches.{blocks_under}
use Rattle.bm_lines.specs.Lines.{Line}
use Rattle.bm_lines.specs.declared.line_batch.LogLines.{LogLines}
use Rattle.bm_session.proofs.Taken.{and-left, and-right}
use Rattle.bm_session.specs.Trace.{is_empty, joined, slice}
use Rattle.bm_session.specs.declared.item.Item.TheVariants.{Open, Lines, End, Gone}
use Rattle.bm_session.specs.declared.results.Results.{Results}
use Rattle.bm_session.specs.declared.results.Results.TheVariants.{Retry}
use Rattle.bm_store.specs.Book.{Logs, no_logs, with_batch, with_end, change_at, is_there, placed, placed_log, placed_in, chunk_log, chunk_in}
use Rattle.bm_store.specs.Placing.{block_at}
use Rattle.bm_store.specs.declared.placed.Placed.{Placed}
use Rattle.bm_store.proofs.Places.{block_at-placed}
use Rattle.bm_store.specs.Kept.{Named, Kept, blocks_of, logs_kept, logs_in, with_parts, have_blocks, nothing_kept, kept_with_batch, kept_with_end}
use Rattle.bm_store.specs.Laws.{KeptBooksMeanLogs}
use Rattle.bm_store.proofs.Shelves.{blocks_of-parts, some-block}

kept-batch : (batch : List LogLines) (c : Kept) → logs_kept (kept_with_batch batch c) ≡ with_batch batch (logs_kept c)
kept-batch batch c = go (is_none c.ended)
  where
    go : (b : Bool) → logs_kept (cond b (record { named = with_parts batch c.named; ended = None }) c)
        ≡ cond b (record { blocks = λ name. blocks_of c.named name ++ blocks_under name batch; ended = None }) (logs_kept c)
    go true = ap (λ (bs : Name → List (List Line)). record { blocks = bs; ended = None }) (fun_ext (λ name. blocks_of-parts batch c.named name))
    go false = refl

kept-end : (r : Results) (c : Kept) → logs_kept (kept_with_end r c) ≡ with_end r (logs_kept c)
kept-end r c = go (is_none c.ended)
  where
    go : (b : Bool) → logs_kept (cond b (record { named = c.named; ended = Some r }) c) ≡ cond b (record { blocks = blocks_of c.named; ended = Some r }) (logs_kept c)
    go true = refl
    go false = refl

change-map : {A B : Type 0} (v : A → B) (f : A → A) (g : B → B) → ((x : A) → v (f x) ≡ g (v x)) → (k : ℕ) (xs : List A) → map v (change_at k f xs) ≡ change_at k g (map v xs)
change-map v f g h k [] = refl
change-map v f g h zero (x ∷ xs) = ap (λ y. y ∷ map v xs) (h x)
change-map v f g h (suc k) (x ∷ xs) = ap (λ l. v x ∷ l) (change-map v f g h k xs)

map-change : {A B : Type 0} (v : A → B) (f : A → A) (g : B → B) → ((x : A) → v (f x) ≡ g (v x)) → (xs : List A) → map v (map f xs) ≡ map g (map v xs)
map-change v f g h [] = refl
map-change v f g h (x ∷ xs) = ap (λ y. y ∷ map v (map f xs)) (h x) ∙ ap (λ l. g (v x) ∷ l) (map-change v f g h xs)

-- the law: a book in memory means the logs that its items make
pub kept_books_mean_logs : KeptBooksMeanLogs
kept_books_mean_logs cs (Open k) = go (k == length cs) ∙ ap (λ n. cond (k == n) (logs_in cs ++ no_logs ∷ []) (logs_in cs)) (sym (length-map cs logs_kept))
  where
    go : (b : Bool) → logs_in (cond b (cs ++ nothing_kept ∷ []) cs) ≡ cond b (logs_in cs ++ no_logs ∷ []) (logs_in cs)
    go true = map-append logs_kept cs (nothing_kept ∷ [])
    go false = refl
kept_books_mean_logs cs (Lines k batch) = change-map logs_kept (kept_with_batch batch) (with_batch batch) (kept-batch batch) k cs
kept_books_mean_logs cs (End k r) = change-map logs_kept (kept_with_end r) (with_end r) (kept-end r) k cs
kept_books_mean_logs cs Gone = map-change logs_kept (kept_with_end Retry) (with_end Retry) (kept-end Retry) cs

-- changes at one place of a list, and at each

pub change_set : {A : Type 0} (f : A → A) (xs : List A) (k : ℕ) (x y : A) → k < length xs → y ≡ f (get_or xs k x) → set xs k y ≡ change_at k f xs
change_set f [] k x y l g = absurd (omega arith)
change_set f (z ∷ zs) zero x y l g = ap (λ w. w ∷ zs) g
change_set f (z ∷ zs) (suc k) x y l g = ap (λ w. z ∷ w) (change_set f zs k x y (omega arith) g)

pub change_past : {A : Type 0} (f : A → A) (xs : List A) (k : ℕ) → length xs ≤ k → change_at k f xs ≡ xs
change_past f [] k l = refl
change_past f (z ∷ zs) zero l = absurd (omega arith)
change_past f (z ∷ zs) (suc k) l = ap (λ w. z ∷ w) (change_past f zs k (omega arith))

-- one more element changed
pub changed_more : {A : Type 0} (f : A → A) (old now : List A) (i : ℕ) (x y : A) → i < length now → y ≡ f (get_or now i x) → now ≡ map f (take i old) ++ drop i old → length old ≡ length now → set now i y ≡ map f (take (i + 1) old) ++ drop (i + 1) old
changed_more f [] now i x y l g h len = absurd (omega arith)
changed_more f (z ∷ zs) [] i x y l g h len = absurd (omega arith)
changed_more f (z ∷ zs) (w ∷ ws) zero x y l g h len = let a : w ≡ z = cc in let b : ws ≡ zs = cc in ap (λ v. v ∷ ws) (g ∙ ap f a) ∙ ap (λ v. f z ∷ v) b
changed_more f (z ∷ zs) (w ∷ ws) (suc i) x y l g h len =
    let a : w ≡ f z = cc in
    let b : ws ≡ map f (take i zs) ++ drop i zs = cc in
    let one : suc i + 1 ≡ suc (i + 1) = omega arith in
    rw one (ap (λ v. v ∷ set ws i y) a ∙ ap (λ v. f z ∷ v) (changed_more f zs ws i x y (omega arith) g b (omega arith)))

-- a log that is looked up by its name

pub find-blocks : (ls : List Named) (name : Name) (l : Named) → find (λ (x : Named). bytes_eq x.name name) ls ≡ Some l → blocks_of ls name ≡ l.blocks
find-blocks [] name l h = cc
find-blocks (x ∷ xs) name l h = go (bytes_eq x.name name) h (find-blocks xs name l)
  where
    go : (b : Bool) → cond b (Some x) (find (λ (y : Named). bytes_eq y.name name) xs) ≡ Some l → (find (λ (y : Named). bytes_eq y.name name) xs ≡ Some l → blocks_of xs name ≡ l.blocks) → cond b x.blocks (blocks_of xs name) ≡ l.blocks
    go true e rest = let same : x ≡ l = cc in ap (λ (y : Named). y.blocks) same
    go false e rest = rest e

pub find-no-blocks : (ls : List Named) (name : Name) → find (λ (x : Named). bytes_eq x.name name) ls ≡ None → blocks_of ls name ≡ []
find-no-blocks [] name h = refl
find-no-blocks (x ∷ xs) name h = go (bytes_eq x.name name) h (find-no-blocks xs name)
  where
    go : (b : Bool) → cond b (Some x) (find (λ (y : Named). bytes_eq y.name name) xs) ≡ None → (find (λ (y : Named). bytes_eq y.name name) xs ≡ None → blocks_of xs name ≡ []) → cond b x.blocks (blocks_of xs name) ≡ []
    go true e rest = cc
    go false e rest = rest e

pub find-some : (p : Named → Bool) (ls : List Named) (l : Named) → have_blocks ls ≡ true → find p ls ≡ Some l → 1 ≤ length l.blocks
find-some p [] l h e = cc
find-some p (x ∷ xs) l h e = go (p x) e (find-some p xs l (and-right _ _ h))
  where
    go : (b : Bool) → cond b (Some x) (find p xs) ≡ Some l → (find p xs ≡ Some l → 1 ≤ length l.blocks) → 1 ≤ length l.blocks
    go true e rest = let same : x ≡ l = cc in let some : 1 ≤ length x.blocks = some-block (length x.blocks) (and-left _ _ h) in let size : length x.blocks ≡ length l.blocks = ap (λ (y : Named). length y.blocks) same in omega arith
    go false e rest = rest e

-- a log with a block is there
pub is_there-found : (c : Kept) (name : Name) (l : Named) → find (λ (x : Named). bytes_eq x.name name) c.named ≡ Some l → 1 ≤ length l.blocks → is_there name (logs_kept c) ≡ true
is_there-found c name l h some = ap (λ bs. bytes_eq name stdio || not (is_empty bs)) (find-blocks c.named name l h) ∙ go l.blocks some (bytes_eq name stdio)
  where
    go : (bs : List (List Line)) → 1 ≤ length bs → (b : Bool) → (b || not (is_empty bs)) ≡ true
    go [] s b = absurd (omega arith)
    go (x ∷ xs) s true = refl
    go (x ∷ xs) s false = refl

-- and one without only if it is `stdio`
pub is_there-no-block : (c : Kept) (name : Name) → find (λ (x : Named). bytes_eq x.name name) c.named ≡ None → is_there name (logs_kept c) ≡ bytes_eq name stdio
is_there-no-block c name h = ap (λ bs. bytes_eq name stdio || not (is_empty bs)) (find-no-blocks c.named name h) ∙ go (bytes_eq name stdio)
  where
    go : (b : Bool) → (b || false) ≡ b
    go true = refl
    go false = refl

-- what is answered of such a log
pub log-found : {A : Type 0} (f : List (List Line) → A) (c : Kept) (name : Name) (l : Named) → have_blocks c.named ≡ true → find (λ (x : Named). bytes_eq x.name name) c.named ≡ Some l
    → cond (is_there name (logs_kept c)) (Some (f (blocks_of c.named name))) None ≡ Some (f l.blocks)
log-found f c name l full h =
    ap (λ b. cond b (Some (f (blocks_of c.named name))) None) (is_there-found c name l h (find-some (λ (x : Named). bytes_eq x.name name) c.named l full h))
    ∙ ap (λ bs. Some (f bs)) (find-blocks c.named name l h)

-- of `stdio` before its first block
pub log-empty : {A : Type 0} (f : List (List Line) → A) (c : Kept) (name : Name) → find (λ (x : Named). bytes_eq x.name name) c.named ≡ None → bytes_eq name stdio ≡ true
    → cond (is_there name (logs_kept c)) (Some (f (blocks_of c.named name))) None ≡ Some (f [])
log-empty f c name h e =
    ap (λ b. cond b (Some (f (blocks_of c.named name))) None) (is_there-no-block c name h ∙ e) ∙ ap (λ bs. Some (f bs)) (find-no-blocks c.named name h)

-- and of another one
pub log-absent : {A : Type 0} (f : List (List Line) → A) (c : Kept) (name : Name) → find (λ (x : Named). bytes_eq x.name name) c.named ≡ None → bytes_eq name stdio ≡ false
    → cond (is_there name (logs_kept c)) (Some (f (blocks_of c.named name))) None ≡ None
log-absent f c name h e = ap (λ b. cond b (Some (f (blocks_of c.named name))) None) (is_there-no-block c name h ∙ e)

-- blocks that a book answers stand at their places, and the asked lines are theirs

log-answers : (l : Logs) (name : Name) (ps : List Placed) → Some ps ≡ placed_log name l
    → (ps ≡ placed (map block_at ps)) × ((off lim : ℕ) → chunk_log name off lim l ≡ Some (slice (joined (map block_at ps)) off lim))
log-answers l name ps h = go (is_there name l) refl h
  where
    go : (b : Bool) → is_there name l ≡ b → Some ps ≡ cond b (Some (placed (l.blocks name))) None
        → (ps ≡ placed (map block_at ps)) × ((off lim : ℕ) → cond b (Some (slice (joined (l.blocks name)) off lim)) None ≡ Some (slice (joined (map block_at ps)) off lim))
    go true e g =
        let same : ps ≡ placed (l.blocks name) = cc in
        let back : map block_at ps ≡ l.blocks name = ap (map block_at) same ∙ block_at-placed 0 (l.blocks name) in
        (same ∙ ap placed (sym back), λ off lim. ap (λ bs. Some (slice (joined bs) off lim)) (sym back))
    go false e g = cc

pub book-answers : (ls : List Logs) (k : ℕ) (name : Name) (ps : List Placed) → Some ps ≡ placed_in ls k name
    → (ps ≡ placed (map block_at ps)) × ((off lim : ℕ) → chunk_in ls k name off lim ≡ Some (slice (joined (map block_at ps)) off lim))
book-answers ls k name ps h = go (slice_get ls k) h
  where
    go : (o : Option Logs) → Some ps ≡ option_and_then (placed_log name) o → (ps ≡ placed (map block_at ps)) × ((off lim : ℕ) → option_and_then (chunk_log name off lim) o ≡ Some (slice (joined (map block_at ps)) off lim))
    go None g = cc
    go (Some l) g = log-answers l name ps g

pub book-lacks : (ls : List Logs) (k : ℕ) (name : Name) (off lim : ℕ) → None ≡ placed_in ls k name → chunk_in ls k name off lim ≡ None
book-lacks ls k name off lim h = go (slice_get ls k) h
  where
    go : (o : Option Logs) → None ≡ option_and_then (placed_log name) o → option_and_then (chunk_log name off lim) o ≡ None
    go None g = refl
    go (Some l) g = inner (is_there name l) g
      where
        inner : (b : Bool) → None ≡ cond b (Some (placed (l.blocks name))) None → cond b (Some (slice (joined (l.blocks name)) off lim)) None ≡ None
        inner true e = cc
        inner false e = refl
