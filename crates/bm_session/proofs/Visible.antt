-- The prefix of a trace that viewers see.
use Rattle.std.proofs.Common.{◌≡◌, refl, sym, ◌∙◌, ap, subst, ℕ, ◌+◌, ◌≤◌, ◌<◌, Bool, true, false, cond, ◌||◌, ◌&&◌, List, [], ◌∷◌, ◌++◌, length, Option, Some, None, arith, append_assoc, inl, inr}
use Rattle.std.specs.Prelude.{◌==◌, ◌⊎◌, unwrap_or, is_some}
use Rattle.std.specs.List.{find, cons_option}
use Rattle.std.specs.Option.{option_or}
use Rattle.std.proofs.lemmas.List.{append-nil, map-append, length-append}
use Rattle.std.proofs.lemmas.Bool.{eqb-true, eq-eqb, cases_lt}
use Rattle.bm_session.proofs.Snoc.{snoc_induction, find-push, and-false, or-true}
use Rattle.bm_session.proofs.Pushed.{next, moments-push, items-push, log-push, added}
use Rattle.bm_session.specs.declared.event.Event.{Event}
use Rattle.bm_session.specs.declared.event.Event.TheVariants.{Up, In, Go, Stop, Cut, Down}
use Rattle.bm_session.specs.declared.event.Body.TheVariants.{Auth, Update}
use Rattle.bm_session.specs.declared.item.Item.{Item}
use Rattle.bm_session.specs.declared.item.Item.TheVariants.{Lines}
use Rattle.bm_lines.specs.Names.{Name}
use Rattle.bm_lines.specs.LineBatches.{blocks_under}
use mathlib.Core.List.{IsPrefix}
use Rattle.bm_session.specs.Trace.{joined, Trace, Moment, moments, log, updates, items, item, item_if, productive, prefixes, visible, is_fresh, is_open}

pub IsPrefix-refl : {A : Type 0} (xs : List A) → IsPrefix xs xs
IsPrefix-refl xs = ([], append-nil xs)

pub IsPrefix-more : {A : Type 0} (xs ys zs : List A) → IsPrefix xs ys → IsPrefix xs (ys ++ zs)
IsPrefix-more xs ys zs h = (h.0 ++ zs, sym (append_assoc xs h.0 zs) ∙ ap (λ l. l ++ zs) h.1)

-- two prefixes of one list
pub compared : {A : Type 0} (xs ys ts : List A) → IsPrefix xs ts → IsPrefix ys ts → IsPrefix xs ys ⊎ IsPrefix ys xs
compared [] ys ts h g = inl (ys, refl)
compared (x ∷ xs) [] ts h g = inr (x ∷ xs, refl)
compared (x ∷ xs) (y ∷ ys) [] h g = cc
compared (x ∷ xs) (y ∷ ys) (t ∷ ts) h g =
    let hx : x ≡ t = cc in
    let gy : y ≡ t = cc in
    let hs : xs ++ h.0 ≡ ts = cc in
    let gs : ys ++ g.0 ≡ ts = cc in
    elim (compared xs ys ts (h.0, hs) (g.0, gs)) [
      | inl p ↦ inl (let e : xs ++ p.0 ≡ ys = p.1 in (p.0, cc))
      | inr p ↦ inr (let e : ys ++ p.0 ≡ xs = p.1 in (p.0, cc))
    ]

-- a word that only adds at its end grows with the trace
pub productive-grows : (u : Trace) (v : Trace) → productive u ≤ productive (u ++ v)
productive-grows u [] = rw append-nil (omega arith)
productive-grows u (e ∷ v) =
    let one : productive u ≤ productive (u ++ e ∷ []) = rw (items-push u e, length-append) (omega arith) in
    let rest : productive (u ++ e ∷ []) ≤ productive ((u ++ e ∷ []) ++ v) = productive-grows (u ++ e ∷ []) v in
    let same : (u ++ e ∷ []) ++ v ≡ u ++ (e ∷ v) = append_assoc u (e ∷ []) v in
    rw (← same) (omega arith)

pub log-grows : (k : ℕ) (name : Name) (u v : Trace) → IsPrefix (log u k name) (log (u ++ v) k name)
log-grows k name u [] = rw append-nil (IsPrefix-refl (log u k name))
log-grows k name u (e ∷ v) =
    let rest : IsPrefix (log (u ++ e ∷ []) k name) (log ((u ++ e ∷ []) ++ v) k name) = log-grows k name (u ++ e ∷ []) v in
    let same : (u ++ e ∷ []) ++ v ≡ u ++ (e ∷ v) = append_assoc u (e ∷ []) v in
    (joined (added u k name e) ++ rest.0, sym (append_assoc (log u k name) (joined (added u k name e)) rest.0) ∙ ap (λ l. l ++ rest.0) (sym (log-push u e k name)) ∙ rest.1 ∙ ap (λ w. log w k name) same)

-- an event that gives no item adds no line
pub no-lines : (b : Bool) (i : Item) → item_if b i ≡ None → b ≡ false
no-lines true i h = cc
no-lines false i h = refl

pub same-arms : {A : Type 0} (b : Bool) (x : A) → cond b x x ≡ x
same-arms true x = refl
same-arms false x = refl

pub unproductive : (t : Trace) (e : Event) (k : ℕ) (name : Name) → item t e ≡ None → added t k name e ≡ []
unproductive t (In n (Update j batch rc)) k name h = go (j == k) refl
  where
    go : (b : Bool) → (j == k) ≡ b → cond (is_fresh (next t (In n (Update j batch rc))) && (j == k) && is_open t k) (blocks_under name batch) [] ≡ []
    go true e =
        let same : j ≡ k = eqb-true j k e in
        let none : updates j (next t (In n (Update j batch rc))) ≡ false = no-lines (updates j (next t (In n (Update j batch rc)))) (Lines j batch) h in
        let none' : updates k (next t (In n (Update j batch rc))) ≡ false = subst (λ i. updates i (next t (In n (Update j batch rc))) ≡ false) same none in
        ap (λ b. cond b (blocks_under name batch) []) none'
    go false e = rw (e, and-false)
unproductive t Up k name h = refl
unproductive t Go k name h = same-arms (updates k (next t Go)) []
unproductive t (Stop j) k name h = refl
unproductive t Down k name h = refl
unproductive t Cut k name h = refl
unproductive t (In n Auth) k name h = same-arms (updates k (next t (In n Auth))) []
unproductive t (In n body) k name h = same-arms (updates k (next t (In n body))) []

-- the first prefix with d productive places, if there is one
abbrev first : Trace → ℕ → Option Trace
first t d = find (λ p. productive p == d) (prefixes t)

prefixes-push : (t : Trace) (e : Event) → prefixes (t ++ e ∷ []) ≡ prefixes t ++ (t ++ e ∷ []) ∷ []
prefixes-push t e = rw (moments-push t e, map-append (λ (m : Moment). m.past) (moments t) (next t e ∷ []))

first-push : (t : Trace) (e : Event) (d : ℕ) → first (t ++ e ∷ []) d ≡ option_or (first t d) (cond (productive (t ++ e ∷ []) == d) (Some (t ++ e ∷ [])) None)
first-push t e d = rw (prefixes-push t e) (find-push (λ p. productive p == d) (prefixes t) (t ++ e ∷ []))

-- what `find` gives passes
pub find-passes : {A : Type 0} (p : A → Bool) (xs : List A) (x : A) → find p xs ≡ Some x → p x ≡ true
find-passes p [] x h = cc
find-passes p (y ∷ ys) x h = go (p y) refl h (find-passes p ys x)
  where
    go : (b : Bool) → p y ≡ b → cond b (Some y) (find p ys) ≡ Some x → (find p ys ≡ Some x → p x ≡ true) → p x ≡ true
    go true e f later = let same : y ≡ x = cc in subst (λ z. p z ≡ true) same e
    go false e f later = later f

pub productive-push : (t : Trace) (e : Event) → productive (t ++ e ∷ []) ≤ productive t + 1
productive-push t e = rw (items-push t e, length-append) (one (item t e))
  where
    one : (o : Option Item) → length (items t) + length (cons_option o []) ≤ length (items t) + 1
    one None = omega arith
    one (Some i) = omega arith

is_some-or : {A : Type 0} (a b : Option A) → is_some (option_or a b) ≡ (is_some a || is_some b)
is_some-or None b = refl
is_some-or (Some x) b = refl

first-is-there : (t : Trace) (d : ℕ) → d ≤ productive t → is_some (first t d) ≡ true
first-is-there = snoc_induction (λ t. (d : ℕ) → d ≤ productive t → is_some (first t d) ≡ true) base step
  where
    base : (d : ℕ) → d ≤ productive [] → is_some (first [] d) ≡ true
    base d h = let e : (0 == d) ≡ true = eq-eqb 0 d (omega arith) in rw e

    step : (t : Trace) (e : Event) → ((d : ℕ) → d ≤ productive t → is_some (first t d) ≡ true) → (d : ℕ) → d ≤ productive (t ++ e ∷ []) → is_some (first (t ++ e ∷ []) d) ≡ true
    step t e ih d h = rw (first-push t e d, is_some-or (first t d)) (go (cases_lt (productive t) d))
      where
        go : (productive t < d) ⊎ (d ≤ productive t) → (is_some (first t d) || is_some (cond (productive (t ++ e ∷ []) == d) (Some (t ++ e ∷ [])) None)) ≡ true
        go (inr l) = rw (ih d l)
        go (inl l) =
            let bound : productive (t ++ e ∷ []) ≤ productive t + 1 = productive-push t e in
            let same : (productive (t ++ e ∷ []) == d) ≡ true = eq-eqb (productive (t ++ e ∷ [])) d (omega arith) in
            rw (same, or-true)

pub visible-first : (t : Trace) (d : ℕ) → d ≤ productive t → first t d ≡ Some (visible t d)
visible-first t d h = go (first t d) (first-is-there t d h)
  where
    go : (o : Option Trace) → is_some o ≡ true → o ≡ Some (unwrap_or o t)
    go None e = cc
    go (Some u) e = refl

first-is-prefix : (t : Trace) (d : ℕ) (u : Trace) → first t d ≡ Some u → IsPrefix u t
first-is-prefix = snoc_induction (λ t. (d : ℕ) (u : Trace) → first t d ≡ Some u → IsPrefix u t) base step
  where
    base : (d : ℕ) (u : Trace) → first [] d ≡ Some u → IsPrefix u []
    base d u h = go (0 == d) h
      where
        go : (b : Bool) → cond b (Some []) None ≡ Some u → IsPrefix u []
        go true f = let e : u ≡ [] = cc in rw e (IsPrefix-refl [])
        go false f = cc

    step : (t : Trace) (e : Event) → ((d : ℕ) (u : Trace) → first t d ≡ Some u → IsPrefix u t) → (d : ℕ) (u : Trace) → first (t ++ e ∷ []) d ≡ Some u → IsPrefix u (t ++ e ∷ [])
    step t e ih d u h = go (first t d) refl (productive (t ++ e ∷ []) == d) (sym (first-push t e d) ∙ h)
      where
        go : (o : Option Trace) → first t d ≡ o → (b : Bool) → option_or o (cond b (Some (t ++ e ∷ [])) None) ≡ Some u → IsPrefix u (t ++ e ∷ [])
        go (Some v) f b g = IsPrefix-more u t (e ∷ []) (ih d u (f ∙ g))
        go None f true g = let same : u ≡ t ++ e ∷ [] = cc in rw same (IsPrefix-refl (t ++ e ∷ []))
        go None f false g = cc

pub visible-is-prefix : (t : Trace) (d : ℕ) → d ≤ productive t → IsPrefix (visible t d) t
visible-is-prefix t d h = first-is-prefix t d (visible t d) (visible-first t d h)

pub productive-visible : (t : Trace) (d : ℕ) → d ≤ productive t → productive (visible t d) ≡ d
productive-visible t d h = eqb-true _ _ (find-passes (λ p. productive p == d) (prefixes t) (visible t d) (visible-first t d h))

pub prefix-log : (k : ℕ) (name : Name) (u v : Trace) → IsPrefix u v → IsPrefix (log u k name) (log v k name)
prefix-log k name u v h = subst (λ w. IsPrefix (log u k name) (log w k name)) h.1 (log-grows k name u h.0)

pub prefix-productive : (u v : Trace) → IsPrefix u v → productive u ≤ productive v
prefix-productive u v h = subst (λ w. productive u ≤ productive w) h.1 (productive-grows u h.0)

pub visible-grows : (t : Trace) (d d' : ℕ) → d ≤ d' → d' ≤ productive t → IsPrefix (visible t d) (visible t d')
visible-grows t d d' h g =
    go (compared (visible t d) (visible t d') t (visible-is-prefix t d (omega arith)) (visible-is-prefix t d' g))
  where
    go : IsPrefix (visible t d) (visible t d') ⊎ IsPrefix (visible t d') (visible t d) → IsPrefix (visible t d) (visible t d')
    go (inl p) = p
    go (inr p) =
        let less : productive (visible t d') ≤ productive (visible t d) = prefix-productive _ _ p in
        let one : productive (visible t d) ≡ d = productive-visible t d (omega arith) in
        let two : productive (visible t d') ≡ d' = productive-visible t d' g in
        let same : d ≡ d' = omega arith in
        rw same (IsPrefix-refl (visible t d'))

-- what viewers see of a log only grows
pub visible_logs_grow : (t : Trace) (k : ℕ) (name : Name) (d d' : ℕ) → d ≤ d' → d' ≤ productive t → IsPrefix (log (visible t d) k name) (log (visible t d') k name)
visible_logs_grow t k name d d' h g = prefix-log k name (visible t d) (visible t d') (visible-grows t d d' h g)

-- with no item more, no line more
pub no-more : (k : ℕ) (name : Name) (u v : Trace) → productive (u ++ v) ≡ productive u → log (u ++ v) k name ≡ log u k name
no-more k name u [] h = rw append-nil
no-more k name u (e ∷ v) h = go (item u e) refl (no-more k name (u ++ e ∷ []) v)
  where
    same : (u ++ e ∷ []) ++ v ≡ u ++ (e ∷ v)
    same = append_assoc u (e ∷ []) v

    count : productive (u ++ e ∷ []) ≡ length (items u ++ cons_option (item u e) [])
    count = ap length (items-push u e)

    go : (o : Option Item) → item u e ≡ o → (productive ((u ++ e ∷ []) ++ v) ≡ productive (u ++ e ∷ []) → log ((u ++ e ∷ []) ++ v) k name ≡ log (u ++ e ∷ []) k name) → log (u ++ e ∷ v) k name ≡ log u k name
    go None f later =
        let one : productive (u ++ e ∷ []) ≡ productive u = count ∙ rw f (ap length (append-nil (items u))) in
        let two : log (u ++ e ∷ []) k name ≡ log u k name = log-push u e k name ∙ rw (unproductive u e k name f) (append-nil (log u k name)) in
        sym (ap (λ w. log w k name) same) ∙ later (ap productive same ∙ h ∙ sym one) ∙ two
    go (Some i) f later =
        let one : productive (u ++ e ∷ []) ≡ productive u + 1 = count ∙ rw (f, length-append) refl in
        let two : productive (u ++ e ∷ []) ≤ productive ((u ++ e ∷ []) ++ v) = productive-grows (u ++ e ∷ []) v in
        let three : productive ((u ++ e ∷ []) ++ v) ≡ productive u = ap productive same ∙ h in
        absurd (omega arith)

-- once all is drained viewers see all of it
pub drained_logs_are_whole : (t : Trace) (k : ℕ) (name : Name) → log (visible t (productive t)) k name ≡ log t k name
drained_logs_are_whole t k name =
    let p : IsPrefix (visible t (productive t)) t = visible-is-prefix t (productive t) (omega arith) in
    let same : productive (visible t (productive t)) ≡ productive t = productive-visible t (productive t) (omega arith) in
    sym (subst (λ w. log w k name ≡ log (visible t (productive t)) k name) p.1 (no-more k name (visible t (productive t)) p.0 (ap productive p.1 ∙ sym same)))
