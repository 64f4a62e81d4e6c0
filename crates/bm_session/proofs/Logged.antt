-- The logs of a trace that was taken, for a loop that has read one event more.
use Rattle.std.proofs.Common.{◌≡◌, refl, sym, ◌∙◌, ap, subst, ℕ, ◌+◌, ◌<◌, ◌≤◌, Bool, true, false, cond, not, ◌||◌, ◌&&◌, List, [], ◌∷◌, ◌++◌, length, take, drop, get_or, None}
use Rattle.std.specs.Prelude.{◌==◌, is_none}
use Rattle.std.proofs.lemmas.Bool.Decides.{nat_tests}
use Rattle.std.proofs.Common.{arith}
use Rattle.std.proofs.lemmas.List.{append-nil, length-take-le, take_more, take-append-drop}
use Rattle.bm_lines.specs.Lines.{Line}
use Rattle.bm_lines.specs.Names.{Name}
use Rattle.bm_lines.specs.LineBatches.{blocks_under}
use Rattle.bm_session.proofs.Snoc.{or-false, or-true}
use Rattle.bm_session.proofs.Pushed.{next, added, blocks-push, log-push}
use Rattle.bm_session.proofs.Taking.{orders_le-length}
use Rattle.bm_session.proofs.Taken.{and-right, front-taken, none-from, was_taken-push}
use Rattle.bm_session.specs.declared.event.Event.{Event}
use Rattle.bm_session.specs.declared.event.Event.TheVariants.{In}
use Rattle.bm_session.specs.declared.event.Body.TheVariants.{Update}
use Rattle.bm_session.specs.declared.table.Table.{Table}
use Rattle.bm_session.specs.Events.{is_update_of, batch_of}
use Rattle.bm_session.specs.Trace.{Trace, is_empty, joined, is_new, is_open, orders, updates, blocks, log, refusal, was_taken}
use Rattle.bm_session.specs.Table.{IsTable, counts}

some-append : {A : Type 0} (xs ys : List A) → not (is_empty (xs ++ ys)) ≡ (not (is_empty xs) || not (is_empty ys))
some-append [] ys = refl
some-append (x ∷ xs) ys = refl

take-next : (t : Trace) (i : ℕ) (x : Event) → i < length t → x ≡ get_or t i x → take (i + 1) t ≡ take i t ++ x ∷ []
take-next t i x l e = take_more t i x l ∙ ap (λ y. take i t ++ y ∷ []) (sym e)

-- whether a log has a block
has_blocks_more : (t : Trace) (i : ℕ) (x : Event) (k : ℕ) (name : Name) → i < length t → x ≡ get_or t i x → not (is_empty (blocks (take (i + 1) t) k name)) ≡ (not (is_empty (blocks (take i t) k name)) || not (is_empty (added (take i t) k name x)))
has_blocks_more t i x k name l e = ap (λ u. not (is_empty (blocks u k name))) (take-next t i x l e) ∙ ap (λ bs. not (is_empty bs)) (blocks-push (take i t) x k name) ∙ some-append (blocks (take i t) k name) (added (take i t) k name x)

log_more : (t : Trace) (i : ℕ) (x : Event) (k : ℕ) (name : Name) → i < length t → x ≡ get_or t i x → log (take (i + 1) t) k name ≡ log (take i t) k name ++ joined (added (take i t) k name x)
log_more t i x k name l e = ap (λ u. log u k name) (take-next t i x l e) ∙ log-push (take i t) x k name

-- what an event adds to a log, by whether it counts
abbrev pub carried_if : Bool → ℕ → Name → Event → List (List Line)
carried_if b k name e = cond b (cond (is_update_of k e) (blocks_under name (batch_of e)) []) []

added-if : (t : Trace) (k : ℕ) (name : Name) (e : Event) → added t k name e ≡ carried_if (counts t e) k name e
added-if t k name (In n (Update j batch rc)) = go (j == k) refl
  where
    gather : (b c : Bool) → cond ((b && true) && c) (blocks_under name batch) [] ≡ cond (b && c) (blocks_under name batch) []
    gather true c = refl
    gather false c = refl

    empty : (b : Bool) → ◌≡◌ {A = List (List Line)} [] (cond b [] [])
    empty true = refl
    empty false = refl

    none : (b c d : Bool) → cond ((b && false) && c) (blocks_under name batch) [] ≡ cond (b && d) [] []
    none true c d = empty d
    none false c d = refl

    go : (b : Bool) → (j == k) ≡ b → cond ((is_new t n && (j == k)) && is_open t k) (blocks_under name batch) [] ≡ cond (is_new t n && is_open t j) (cond (j == k) (blocks_under name batch) []) []
    go true e =
        let at : k ≡ j = grind (arith, nat_tests) in
        ap (λ x. cond ((is_new t n && x) && is_open t k) (blocks_under name batch) []) e
        ∙ gather (is_new t n) (is_open t k)
        ∙ ap (λ x. cond (is_new t n && is_open t x) (blocks_under name batch) []) at
        ∙ ap (λ x. cond (is_new t n && is_open t j) (cond x (blocks_under name batch) []) []) (sym e)
    go false e =
        ap (λ x. cond ((is_new t n && x) && is_open t k) (blocks_under name batch) []) e
        ∙ none (is_new t n) (is_open t k) (is_open t j)
        ∙ ap (λ x. cond (is_new t n && is_open t j) (cond x (blocks_under name batch) []) []) (sym e)
added-if t k name e = collapse (updates k (next t e))
  where
    collapse : (b : Bool) → ◌≡◌ {A = List (List Line)} (cond b [] []) []
    collapse true = refl
    collapse false = refl

log_next : (t : Trace) (b : Bool) (i k : ℕ) (name : Name) (x : Event) → b ≡ counts (take i t) x → i < length t → x ≡ get_or t i x → log (take (i + 1) t) k name ≡ log (take i t) k name ++ joined (carried_if b k name x)
log_next t b i k name x same l e =
    log_more t i x k name l e
    ∙ ap (λ b. log (take i t) k name ++ joined b) (added-if (take i t) k name x ∙ ap (λ c. carried_if c k name x) (sym same))

blocks_next : (t : Trace) (b : Bool) (i k : ℕ) (name : Name) (x : Event) → b ≡ counts (take i t) x → i < length t → x ≡ get_or t i x → not (is_empty (blocks (take (i + 1) t) k name)) ≡ (not (is_empty (blocks (take i t) k name)) || not (is_empty (carried_if b k name x)))
blocks_next t b i k name x same l e =
    has_blocks_more t i x k name l e
    ∙ ap (λ b. not (is_empty (blocks (take i t) k name)) || not (is_empty b)) (added-if (take i t) k name x ∙ ap (λ c. carried_if c k name x) (sym same))

-- what a walk has of a log: whether there is a block, and the lines
abbrev pub HasLog : Trace → ℕ → Name → Bool → List Line → Type 0
HasLog t k name found lines = (found ≡ not (is_empty (blocks t k name))) × (lines ≡ log t k name)

-- after an event that adds a block, and after one that adds none
pub with_block : (t : Trace) (b : Bool) (i k : ℕ) (name : Name) (x : Event) → b ≡ counts (take i t) x → i < length t → x ≡ get_or t i x
    → (block lines : List Line) → block ∷ [] ≡ carried_if b k name x → lines ≡ log (take i t) k name → HasLog (take (i + 1) t) k name true (lines ++ block)
with_block t b i k name x same l e block lines adds is = (
  sym (blocks_next t b i k name x same l e ∙ ap (λ bs. not (is_empty (blocks (take i t) k name)) || not (is_empty bs)) (sym adds) ∙ or-true _),
  ap (λ ls. ls ++ block) is ∙ ap (λ ls. log (take i t) k name ++ ls) (sym (append-nil block)) ∙ ap (λ bs. log (take i t) k name ++ joined bs) adds
      ∙ sym (log_next t b i k name x same l e),
)

pub without_block : (t : Trace) (b : Bool) (i k : ℕ) (name : Name) (x : Event) → b ≡ counts (take i t) x → i < length t → x ≡ get_or t i x
    → (found : Bool) (lines : List Line) → [] ≡ carried_if b k name x → HasLog (take i t) k name found lines → HasLog (take (i + 1) t) k name found lines
without_block t b i k name x same l e found lines adds is = (
  is.0 ∙ sym (blocks_next t b i k name x same l e ∙ ap (λ bs. not (is_empty (blocks (take i t) k name)) || not (is_empty bs)) (sym adds) ∙ or-false _),
  is.1 ∙ sym (append-nil (log (take i t) k name)) ∙ ap (λ bs. log (take i t) k name ++ joined bs) adds ∙ sym (log_next t b i k name x same l e),
)

pub taken_front : (t : Trace) (i : ℕ) → was_taken t ≡ true → was_taken (take i t) ≡ true
taken_front t i h = front-taken (take i t) (drop i t) (subst (λ w. was_taken w ≡ true) (sym (take-append-drop i t)) h)

pub taken_at : (t : Trace) (i : ℕ) (x : Event) → was_taken t ≡ true → i < length t → x ≡ get_or t i x → refusal (take i t) x ≡ None
taken_at t i x h l e =
    let more : was_taken (take i t ++ x ∷ []) ≡ true = subst (λ w. was_taken w ≡ true) (take-next t i x l e) (taken_front t (i + 1) h) in
    none-from (refusal (take i t) x) (and-right (was_taken (take i t)) (is_none (refusal (take i t) x)) (sym (was_taken-push (take i t) x) ∙ more))

-- a table that has read one event more
pub table_next : (tb : Table) (t : Trace) (i : ℕ) (x : Event) → i < length t → x ≡ get_or t i x → IsTable tb (take i t ++ x ∷ []) → IsTable tb (take (i + 1) t)
table_next tb t i x l e is = subst (IsTable tb) (sym (take-next t i x l e)) is

pub table_few : (tb : Table) (t : Trace) (i : ℕ) → i < length t → IsTable tb (take (i + 1) t) → tb.orders ≤ i + 1
table_few tb t i l is =
    let numbered : tb.orders ≡ orders (take (i + 1) t) = is.numbered in
    let few : orders (take (i + 1) t) ≤ length (take (i + 1) t) = orders_le-length (take (i + 1) t) in
    let front : length (take (i + 1) t) ≡ i + 1 = length-take-le (i + 1) t (omega arith) in
    omega arith
