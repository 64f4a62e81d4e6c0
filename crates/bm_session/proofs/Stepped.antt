-- The table of a trace, where one event comes after the trace.
use Rattle.std.proofs.Common.{◌≡◌, refl, sym, ◌∙◌, ap, ℕ, ◌+◌, ◌<◌, Bool, true, false, cond, not, ◌||◌, ◌&&◌, List, [], ◌∷◌, ◌++◌, length, map, get_or, Option, Some, None, arith}
use Rattle.std.specs.Prelude.{◌==◌, nat_lt, is_none, is_some, option_map, ℤ}
use Rattle.std.specs.List.{list_any, find, filter}
use Rattle.std.specs.Option.{option_or}
use Rattle.std.proofs.lemmas.Bool.Decides.{nat_tests}
use Rattle.bm_session.proofs.Snoc.{list_any-push, and-true, or-false}
use Rattle.bm_session.proofs.Pushed.{next, commands-push, is_up-push, ending-push, first_with-push, last_rc-push}
use Rattle.bm_session.proofs.Taken.{and-left, and-right, is_open-push, open-is-started, none-from}
use Rattle.bm_session.proofs.Listed.{find-map, filter-open, map-open, open_commands-keep, start_order-push, was_order-start}
use Rattle.bm_session.specs.declared.event.Event.{Event}
use Rattle.bm_session.specs.declared.event.Event.TheVariants.{Up, In, Go, Stop, Cut, Down}
use Rattle.bm_session.specs.declared.event.Body.{Body}
use Rattle.bm_session.specs.declared.event.Body.TheVariants.{Complete, Answered}
use Rattle.bm_session.specs.declared.results.Results.{Results}
use Rattle.bm_session.specs.declared.open.Open.{Open}
use Rattle.bm_session.specs.declared.table.Table.{Table}
use Rattle.bm_session.specs.Events.{is_interruption, is_up_event, is_go, is_stop_of, is_request, is_update_of, rc_of}
use Rattle.bm_session.specs.Trace.{Trace, Moment, session, commands, is_up, is_cut, is_new, is_fresh, was_order, ends_at, ending, is_open, open_commands, ended_by, updates, last_rc, result_of_rc, first_with, verdict, seen, outcome, result_at, begins_session}
use Rattle.bm_session.specs.Table.{IsTable, start_order, open_entry, outcome_from}

-- Numbers that are new

find-any : {A : Type 0} (p : A → Bool) (xs : List A) → is_none (find p xs) ≡ not (list_any p xs)
find-any p [] = refl
find-any p (x ∷ xs) = go (p x) (find-any p xs)
  where
    go : (b : Bool) → is_none (find p xs) ≡ not (list_any p xs) → is_none (cond b (Some x) (find p xs)) ≡ not (b || list_any p xs)
    go true ih = refl
    go false ih = ih

pub seen-up : (t : Trace) (n : ℕ) → is_up t ≡ true → seen t n ≡ option_map (λ (m : Moment). verdict m.past m.event) (first_with t n)
seen-up t n up = ap (λ b. cond (b || is_cut t) (option_map (λ (m : Moment). verdict m.past m.event) (first_with t n)) None) up

pub is_new-seen : (t : Trace) (n : ℕ) → is_up t ≡ true → is_none (seen t n) ≡ is_new t n
is_new-seen t n up = ap (λ o. is_none o) (seen-up t n up) ∙ go (first_with t n) ∙ find-any (λ (m : Moment). is_request n m.event) (session t)
  where
    go : (o : Option Moment) → is_none (option_map (λ (m : Moment). verdict m.past m.event) o) ≡ is_none o
    go None = refl
    go (Some m) = refl

pub none-some : {A : Type 0} (b : Bool) (o : Option A) → not b ≡ is_some o → b ≡ is_none o
none-some true None h = refl
none-some true (Some x) h = cc
none-some false None h = cc
none-some false (Some x) h = refl

-- What ends a command

pub find-cong : (t : Trace) (p q : ℕ → Bool) → ((k : ℕ) → is_open t k ≡ true → p k ≡ q k) → find p (open_commands t) ≡ find q (open_commands t)
find-cong t p q h = sym (head p (open_commands t)) ∙ ap head_of (filter-open t p q h) ∙ head q (open_commands t)
  where
    head_of : List ℕ → Option ℕ
    head_of [] = None
    head_of (x ∷ xs) = Some x

    one : (x : ℕ) (p : ℕ → Bool) (xs : List ℕ) (b : Bool) → head_of (filter p xs) ≡ find p xs → head_of (cond b (x ∷ filter p xs) (filter p xs)) ≡ cond b (Some x) (find p xs)
    one x p xs true ih = refl
    one x p xs false ih = ih

    head : (p : ℕ → Bool) (xs : List ℕ) → head_of (filter p xs) ≡ find p xs
    head p [] = refl
    head p (x ∷ xs) = one x p xs (p x) (head p xs)

started : (t : Trace) (k : ℕ) → is_open t k ≡ true → nat_lt k (commands t) ≡ true
started t k o = and-left (nat_lt k (commands t)) (is_none (ending t k)) o

-- a fresh complete
pub ends-complete : (t : Trace) (n j : ℕ) (f : Bool) (k : ℕ) → is_open t k ≡ true → ends_at k (next t (In n (Complete j f))) ≡ (is_new t n && (j == k))
ends-complete t n j f k o = ap (λ b. b && (is_new t n && (j == k) || false)) (started t k o) ∙ or-false (is_new t n && (j == k))

pub ends-refusal : (t : Trace) (n k : ℕ) → is_open t k ≡ true → ends_at k (next t (In n (Answered true))) ≡ (start_order t k == n)
ends-refusal t n k o = ap (λ b. b && was_order t k n) (started t k o) ∙ was_order-start t k n (open-is-started t k o)

pub find-none : {A : Type 0} (xs : List A) → find (λ _. false) xs ≡ None
find-none [] = refl
find-none (x ∷ xs) = find-none xs

ended-nothing : (t : Trace) (e : Event) → ((k : ℕ) → is_open t k ≡ true → ends_at k (next t e) ≡ false) → ended_by t e ≡ None
ended-nothing t e h = find-cong t (λ k. ends_at k (next t e)) (λ _. false) h ∙ find-none (open_commands t)

pub ended_by-complete : (t : Trace) (n j : ℕ) (f : Bool) → ended_by t (In n (Complete j f)) ≡ cond (is_new t n) (find (λ k. j == k) (open_commands t)) None
ended_by-complete t n j f = find-cong t (λ k. ends_at k (next t (In n (Complete j f)))) (λ k. is_new t n && (j == k)) (ends-complete t n j f) ∙ go (is_new t n)
  where
    go : (b : Bool) → find (λ k. b && (j == k)) (open_commands t) ≡ cond b (find (λ k. j == k) (open_commands t)) None
    go true = refl
    go false = find-none (open_commands t)

-- the entry of the command that a complete ends
pub ended-complete : (tb : Table) (t : Trace) (n j : ℕ) (f : Bool) → IsTable tb t → cond (is_new t n) (find (λ (o : Open). j == o.command) tb.opened.items) None ≡ option_map (open_entry t) (ended_by t (In n (Complete j f)))
ended-complete tb t n j f is =
    ap (λ os. cond (is_new t n) (find (λ (o : Open). j == o.command) os) None) is.listed
    ∙ ap (λ o. cond (is_new t n) o None) (find-map (open_entry t) (λ (o : Open). j == o.command) (open_commands t))
    ∙ go (is_new t n)
    ∙ ap (option_map (open_entry t)) (sym (ended_by-complete t n j f))
  where
    go : (b : Bool) → cond b (option_map (open_entry t) (find (λ k. j == k) (open_commands t))) None ≡ option_map (open_entry t) (cond b (find (λ k. j == k) (open_commands t)) None)
    go true = refl
    go false = refl

-- the entry of the command whose start is refused
pub ended-refusal : (tb : Table) (t : Trace) (n : ℕ) → IsTable tb t → find (λ (o : Open). o.order == n) tb.opened.items ≡ option_map (open_entry t) (ended_by t (In n (Answered true)))
ended-refusal tb t n is =
    ap (find (λ (o : Open). o.order == n)) is.listed
    ∙ find-map (open_entry t) (λ (o : Open). o.order == n) (open_commands t)
    ∙ ap (option_map (open_entry t)) (sym (find-cong t (λ k. ends_at k (next t (In n (Answered true)))) (λ k. start_order t k == n) (ends-refusal t n)))

-- the bodies that end nothing
abbrev pub ends_nothing : Body → Bool
ends_nothing (Complete j f) = false
ends_nothing (Answered true) = false
ends_nothing _ = true

quiet : (a f : Bool) → (a && (f && false || false)) ≡ false
quiet true true = refl
quiet true false = refl
quiet false f = refl

pub ends-nothing : (t : Trace) (n : ℕ) (body : Body) (k : ℕ) → ends_nothing body ≡ true → ends_at k (next t (In n body)) ≡ false
ends-nothing t n (Complete j f) k h = cc
ends-nothing t n (Answered true) k h = cc
ends-nothing t n (Answered false) k h = quiet (nat_lt k (commands t)) (is_fresh (next t (In n (Answered false))))
ends-nothing t n body k h = quiet (nat_lt k (commands t)) (is_fresh (next t (In n body)))

pub ended-none : (t : Trace) (n : ℕ) (body : Body) → ends_nothing body ≡ true → None ≡ option_map (open_entry t) (ended_by t (In n body))
ended-none t n body h = ap (option_map (open_entry t)) (sym (ended-nothing t (In n body) (λ k o. ends-nothing t n body k h)))

-- Entries

abbrev pub entry : ℕ → ℕ → Bool → Results → Open
entry k o s r = record { command = k; order = o; stopped = s; told = r }

pub entry-push : (t : Trace) (e : Event) (k : ℕ) → k < commands t
    → open_entry (t ++ e ∷ []) k ≡ entry k (start_order t k) (list_any (is_stop_of k) t || is_stop_of k e) (result_of_rc (option_or (cond (updates k (next t e)) (rc_of e) None) (last_rc t k)))
entry-push t e k l =
    ap (λ o. entry k o (list_any (is_stop_of k) (t ++ e ∷ [])) (result_of_rc (last_rc (t ++ e ∷ []) k))) (start_order-push t e k l)
    ∙ ap (λ s. entry k (start_order t k) s (result_of_rc (last_rc (t ++ e ∷ []) k))) (list_any-push (is_stop_of k) t e)
    ∙ ap (λ z. entry k (start_order t k) (list_any (is_stop_of k) t || is_stop_of k e) (result_of_rc z)) (last_rc-push t e k)

pub entry-keep : (t : Trace) (e : Event) (k : ℕ) → k < commands t → is_stop_of k e ≡ false → cond (updates k (next t e)) (rc_of e) None ≡ None → open_entry (t ++ e ∷ []) k ≡ open_entry t k
entry-keep t e k l s r =
    entry-push t e k l
    ∙ ap (λ b. entry k (start_order t k) (list_any (is_stop_of k) t || b) (result_of_rc (option_or (cond (updates k (next t e)) (rc_of e) None) (last_rc t k)))) s
    ∙ ap (λ b. entry k (start_order t k) b (result_of_rc (option_or (cond (updates k (next t e)) (rc_of e) None) (last_rc t k)))) (or-false (list_any (is_stop_of k) t))
    ∙ ap (λ z. entry k (start_order t k) (list_any (is_stop_of k) t) (result_of_rc (option_or z (last_rc t k)))) r

-- an event that carries no exit code
pub no-code : (t : Trace) (e : Event) (k : ℕ) → rc_of e ≡ None → cond (updates k (next t e)) (rc_of e) None ≡ None
no-code t e k r = ap (λ z. cond (updates k (next t e)) z None) r ∙ go (updates k (next t e))
  where
    go : (b : Bool) → ◌≡◌ {A = Option ℤ} (cond b None None) None
    go true = refl
    go false = refl

-- a repeat's exit code doesn't count
pub no-repeat : (t : Trace) (e : Event) (k : ℕ) → is_fresh (next t e) ≡ false → cond (updates k (next t e)) (rc_of e) None ≡ None
no-repeat t e k f = ap (λ b. cond (b && is_update_of k e && is_open t k) (rc_of e) None) f

-- the entries after an event that orders no stop and carries no code that counts
pub record IsQuiet (t : Trace) (e : Event) : Type 0 where
  pub no_stop : (k : ℕ) → is_stop_of k e ≡ false
  pub no_code : (k : ℕ) → cond (updates k (next t e)) (rc_of e) None ≡ None

pub listed-keep : (tb : Table) (t : Trace) (e : Event) → IsTable tb t → is_go e ≡ false → ((k : ℕ) → is_open t k ≡ true → ends_at k (next t e) ≡ false) → IsQuiet t e
    → tb.opened.items ≡ map (open_entry (t ++ e ∷ [])) (open_commands (t ++ e ∷ []))
listed-keep tb t e is g h q =
    is.listed
    ∙ map-open t (open_entry t) (open_entry (t ++ e ∷ [])) (λ k o. sym (entry-keep t e k (open-is-started t k o) (q.no_stop k) (q.no_code k)))
    ∙ ap (map (open_entry (t ++ e ∷ []))) (sym (open_commands-keep t e g h))

-- Outcomes

pub outcome-push : (t : Trace) (e : Event) (k : ℕ) → outcome (t ++ e ∷ []) k ≡ option_or (outcome t k) (cond (ends_at k (next t e)) (Some (result_at k (next t e))) None)
outcome-push t e k = ap (option_map (result_at k)) (ending-push t e k) ∙ go (ending t k) (ends_at k (next t e))
  where
    go : (o : Option Moment) (b : Bool) → option_map (result_at k) (option_or o (cond b (Some (next t e)) None)) ≡ option_or (option_map (result_at k) o) (cond b (Some (result_at k (next t e))) None)
    go (Some m) b = refl
    go None true = refl
    go None false = refl

-- an open command has no outcome
pub outcome-open : (t : Trace) (k : ℕ) → is_open t k ≡ true → outcome t k ≡ None
outcome-open t k o = ap (option_map (result_at k)) (none-from (ending t k) (and-right (nat_lt k (commands t)) (is_none (ending t k)) o))

-- a command that the event doesn't end stays as it is
pub record IsKept (t : Trace) (e : Event) (k : ℕ) : Type 0 where
  pub same_open : is_open (t ++ e ∷ []) k ≡ is_open t k
  pub same_outcome : outcome (t ++ e ∷ []) k ≡ outcome t k

pub kept : (t : Trace) (e : Event) (k : ℕ) → k < commands t → (is_open t k ≡ true → ends_at k (next t e) ≡ false) → IsKept t e k
kept t e k l h = go (ending t k) refl (is_open t k) refl
  where
    below : nat_lt k (commands t) ≡ true
    below = grind (arith, nat_tests)

    opened : (o : Option Moment) → ending t k ≡ o → is_open t k ≡ is_none o
    opened o e = ap (λ b. b && is_none (ending t k)) below ∙ ap (λ x. is_none x) e

    go : (o : Option Moment) → ending t k ≡ o → (b : Bool) → is_open t k ≡ b → IsKept t e k
    go (Some m) is b eq =
        let shut : is_open t k ≡ false = opened (Some m) is in
        record {
          same_open = is_open-push t e k l ∙ ap (λ x. x && not (ends_at k (next t e))) shut ∙ sym shut;
          same_outcome = outcome-push t e k ∙ ap (λ x. option_or (option_map (result_at k) x) (cond (ends_at k (next t e)) (Some (result_at k (next t e))) None)) is ∙ ap (option_map (result_at k)) (sym is);
        }
    go None is true eq =
        let stays : ends_at k (next t e) ≡ false = h eq in
        record {
          same_open = is_open-push t e k l ∙ ap (λ x. is_open t k && not x) stays ∙ and-true (is_open t k);
          same_outcome = outcome-push t e k ∙ ap (λ x. option_or (outcome t k) (cond x (Some (result_at k (next t e))) None)) stays ∙ ap (λ x. option_or (option_map (result_at k) x) None) is ∙ ap (option_map (result_at k)) (sym is);
        }
    go None is false eq = let on : is_open t k ≡ true = opened None is in cc

pub ended-keep : (tb : Table) (t : Trace) (e : Event) → IsTable tb t → is_go e ≡ false → ((k : ℕ) → is_open t k ≡ true → ends_at k (next t e) ≡ false)
    → (k : ℕ) → k < commands (t ++ e ∷ []) → outcome_from (get_or tb.outcomes.items k None) (is_open (t ++ e ∷ []) k) ≡ outcome (t ++ e ∷ []) k
ended-keep tb t e is g h k l =
    let grow : commands (t ++ e ∷ []) ≡ commands t + cond (is_go e) 1 0 = commands-push t e in
    let same : commands (t ++ e ∷ []) ≡ commands t = grow ∙ ap (λ b. commands t + cond b 1 0) g ∙ omega arith in
    let old : k < commands t = omega arith in
    let at : IsKept t e k = kept t e k old (h k) in
    ap (outcome_from (get_or tb.outcomes.items k None)) at.same_open ∙ is.ended k old ∙ sym at.same_outcome

pub counted-keep : (tb : Table) (t : Trace) (e : Event) → IsTable tb t → is_go e ≡ false → length tb.outcomes.items ≡ commands (t ++ e ∷ [])
counted-keep tb t e is g = is.counted ∙ sym (commands-push t e ∙ ap (λ b. commands t + cond b 1 0) g ∙ omega arith)

-- Numbers

-- the events that leave a lane up
abbrev pub stays_up : Event → Bool
stays_up Up = false
stays_up Cut = false
stays_up Down = false
stays_up _ = true

-- the first verdicts after such an event
pub seen-stay : (t : Trace) (e : Event) (n : ℕ) → is_up t ≡ true → stays_up e ≡ true → seen (t ++ e ∷ []) n ≡ option_or (seen t n) (cond (is_request n e) (Some (verdict t e)) None)
seen-stay t e n up s =
    let still : is_up (t ++ e ∷ []) ≡ true = is_up-push t e ∙ up-after e s in
    seen-up (t ++ e ∷ []) n still
    ∙ ap (option_map (λ (m : Moment). verdict m.past m.event)) (first_with-push t e n ∙ ap (λ b. cond b None (option_or (first_with t n) (cond (is_request n e) (Some (next t e)) None))) (no-begin e s))
    ∙ go (first_with t n) (is_request n e)
    ∙ ap (λ o. option_or o (cond (is_request n e) (Some (verdict t e)) None)) (sym (seen-up t n up))
  where
    up-after : (x : Event) → stays_up x ≡ true → cond (is_interruption x) false (is_up t || is_up_event x) ≡ true
    up-after Up s = cc
    up-after Cut s = cc
    up-after Down s = cc
    up-after Go s = ap (λ b. b || false) up
    up-after (Stop j) s = ap (λ b. b || false) up
    up-after (In m body) s = ap (λ b. b || false) up

    no-begin : (x : Event) → stays_up x ≡ true → begins_session (next t x) ≡ false
    no-begin Up s = cc
    no-begin Cut s = cc
    no-begin Down s = cc
    no-begin Go s = refl
    no-begin (Stop j) s = refl
    no-begin (In m body) s = refl

    go : (o : Option Moment) (b : Bool) → option_map (λ (m : Moment). verdict m.past m.event) (option_or o (cond b (Some (next t e)) None)) ≡ option_or (option_map (λ (m : Moment). verdict m.past m.event) o) (cond b (Some (verdict t e)) None)
    go (Some m) b = refl
    go None true = refl
    go None false = refl
