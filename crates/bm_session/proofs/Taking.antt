-- What becomes of the table where an event is taken.
use Rattle.std.proofs.Common.{◌≡◌, refl, sym, ◌∙◌, ap, subst, ℕ, zero, suc, ◌+◌, ◌<◌, ◌≤◌, Bool, true, false, cond, not, ◌||◌, ◌&&◌, List, [], ◌∷◌, ◌++◌, length, map, get_or, Option, Some, None, arith, inl, inr}
use Rattle.std.specs.Prelude.{◌==◌, ◌⊎◌, nat_lt, nat_le, is_none, option_map}
use Rattle.std.specs.List.{list_any}
use Rattle.std.specs.Option.{option_or}
use Rattle.std.proofs.lemmas.Bool.{cases_lt}
use Rattle.std.proofs.lemmas.Bool.Decides.{nat_tests}
use Rattle.bm_session.proofs.Snoc.{snoc_induction, list_any-push, and-false, or-false, or-true}
use Rattle.bm_session.proofs.Pushed.{next, commands-push, orders-push, is_up-push, is_cut-push, first_with-push, last_rc-push}
use Rattle.bm_session.proofs.Taken.{and-left, and-right, not-started, IsNothing, is_open-push, open-is-started, was_taken-push, none-from, ends-no, not-up, already}
use Rattle.bm_session.proofs.Listed.{map-open, map-append, open_commands-keep, open_commands-down, open_commands-go, is_open-go, start_order-go}
use Rattle.bm_session.proofs.Stepped.{entry, entry-push, entry-keep, no-code, listed-keep, IsKept, kept, outcome-push, outcome-open, ended-keep, counted-keep, seen-up, seen-stay, stays_up}
use Rattle.bm_session.specs.declared.event.Event.{Event}
use Rattle.bm_session.specs.declared.event.Event.TheVariants.{Up, In, Go, Stop, Cut, Down}
use Rattle.bm_session.specs.declared.event.Body.{Body}
use Rattle.bm_session.specs.declared.reply.Verdict.{Verdict}
use Rattle.bm_session.specs.declared.results.Results.{Results}
use Rattle.bm_session.specs.declared.results.Results.TheVariants.{Exception, Retry}
use Rattle.bm_session.specs.declared.refusal.Refusal.TheVariants.{NotUp, NoSuchCommand, TooManyOpen}
use Rattle.bm_session.specs.Trace.{first_reason, reason_if, full}
use Rattle.std.proofs.lemmas.List.{length-append}
use Rattle.std.proofs.Math.ListN.{get_or-append}
use Rattle.bm_session.specs.declared.table.Link.TheVariants as linked
use Rattle.bm_session.specs.declared.table.Table.{Table}
use Rattle.bm_session.specs.Events.{is_go, is_stop_of, is_request, rc_of}
use Rattle.bm_session.specs.Seen.{verdict_in}
use Rattle.bm_session.specs.Events.{is_order}
use Rattle.bm_session.specs.Trace.{begins_session}
use Rattle.bm_session.specs.Trace.{Trace, Moment, commands, orders, is_up, is_cut, ends_at, is_open, open_commands, updates, last_rc, result_of_rc, first_with, verdict, seen, outcome, result_at, refusal, was_taken}
use Rattle.bm_session.specs.Table.{IsTable, is_link_up, is_link_cut, start_order, open_entry, outcome_from, with_stop}

-- A connection

seen-Up : (t : Trace) (n : ℕ) → is_up t ≡ false → seen (t ++ Up ∷ []) n ≡ seen t n
seen-Up t n down =
    let up : is_up (t ++ Up ∷ []) ≡ true = is_up-push t Up ∙ or-true (is_up t) in
    seen-up (t ++ Up ∷ []) n up
    ∙ ap (option_map (λ (m : Moment). verdict m.past m.event)) (first_with-push t Up n)
    ∙ go (is_cut t)
    ∙ sym (ap (λ b. cond (b || is_cut t) (option_map (λ (m : Moment). verdict m.past m.event) (first_with t n)) None) down)
  where
    same : (o : Option Moment) → option_or o None ≡ o
    same None = refl
    same (Some m) = refl

    go : (b : Bool) → option_map (λ (m : Moment). verdict m.past m.event) (cond (not b) None (option_or (first_with t n) None)) ≡ cond b (option_map (λ (m : Moment). verdict m.past m.event) (first_with t n)) None
    go true = ap (option_map (λ (m : Moment). verdict m.past m.event)) (same (first_with t n))
    go false = refl

pub table-Up : (tb tb' : Table) (t : Trace) → IsTable tb t → refusal t Up ≡ None
    → tb'.link ≡ linked.Up → tb'.orders ≡ cond (is_link_cut tb.link) tb.orders 0 → tb'.opened.items ≡ tb.opened.items → tb'.outcomes.items ≡ tb.outcomes.items → tb'.seen.ranges ≡ tb.seen.ranges
    → IsTable tb' (t ++ Up ∷ [])
table-Up tb tb' t is r e-link e-orders e-open e-outcomes e-seen =
    let down : is_up t ≡ false = already t _ r in
    record {
      up = ap is_link_up e-link ∙ sym (is_up-push t Up ∙ or-true (is_up t));
      cut = ap is_link_cut e-link ∙ sym (is_cut-push t Up);
      numbered = e-orders ∙ ap (λ b. cond b tb.orders 0) is.cut ∙ ap (λ n. cond (is_cut t) n 0) is.numbered ∙ numbers (is_cut t) ∙ sym (orders-push t Up);
      listed = e-open ∙ listed-keep tb t Up is refl (λ k o. (ends-no t k).0) (record { no_stop = λ k. refl; no_code = λ k. no-code t Up k refl });
      counted = ap length e-outcomes ∙ counted-keep tb t Up is refl;
      ended = λ k l. ap (λ os. outcome_from (get_or os k None) (is_open (t ++ Up ∷ []) k)) e-outcomes ∙ ended-keep tb t Up is refl (λ k o. (ends-no t k).0) k l;
      had = λ n. ap (λ rs. verdict_in rs n) e-seen ∙ is.had n ∙ sym (seen-Up t n down);
    }
  where
    numbers : (b : Bool) → cond b (orders t) 0 ≡ cond (not b) 0 (orders t + 0)
    numbers true = omega arith
    numbers false = refl

seen-Cut : (t : Trace) (n : ℕ) → is_up t ≡ true → seen (t ++ Cut ∷ []) n ≡ seen t n
seen-Cut t n up =
    let cut : is_cut (t ++ Cut ∷ []) ≡ true = is_cut-push t Cut ∙ or-true (is_cut t) in
    let down : is_up (t ++ Cut ∷ []) ≡ false = is_up-push t Cut in
    ap (λ b. cond (b || is_cut (t ++ Cut ∷ [])) (option_map (λ (m : Moment). verdict m.past m.event) (first_with (t ++ Cut ∷ []) n)) None) down
    ∙ ap (λ b. cond b (option_map (λ (m : Moment). verdict m.past m.event) (first_with (t ++ Cut ∷ []) n)) None) cut
    ∙ ap (option_map (λ (m : Moment). verdict m.past m.event)) (first_with-push t Cut n ∙ same (first_with t n))
    ∙ sym (seen-up t n up)
  where
    same : (o : Option Moment) → option_or o None ≡ o
    same None = refl
    same (Some m) = refl

pub table-Cut : (tb tb' : Table) (t : Trace) → IsTable tb t → refusal t Cut ≡ None
    → tb'.link ≡ linked.Cut → tb'.orders ≡ tb.orders → tb'.opened.items ≡ tb.opened.items → tb'.outcomes.items ≡ tb.outcomes.items → tb'.seen.ranges ≡ tb.seen.ranges
    → IsTable tb' (t ++ Cut ∷ [])
table-Cut tb tb' t is r e-link e-orders e-open e-outcomes e-seen =
    let up : is_up t ≡ true = not-up t _ r in
    let more : orders (t ++ Cut ∷ []) ≡ orders t + 0 = orders-push t Cut in
    let numbered : tb.orders ≡ orders t = is.numbered in
    record {
      up = ap is_link_up e-link ∙ sym (is_up-push t Cut);
      cut = ap is_link_cut e-link ∙ sym (is_cut-push t Cut ∙ or-true (is_cut t));
      numbered = e-orders ∙ omega arith;
      listed = e-open ∙ listed-keep tb t Cut is refl (λ k o. (ends-no t k).3) (record { no_stop = λ k. refl; no_code = λ k. no-code t Cut k refl });
      counted = ap length e-outcomes ∙ counted-keep tb t Cut is refl;
      ended = λ k l. ap (λ os. outcome_from (get_or os k None) (is_open (t ++ Cut ∷ []) k)) e-outcomes ∙ ended-keep tb t Cut is refl (λ k o. (ends-no t k).3) k l;
      had = λ n. ap (λ rs. verdict_in rs n) e-seen ∙ is.had n ∙ sym (seen-Cut t n up);
    }

-- A giving up

ended-Down : (t : Trace) (k : ℕ) (o : Option Results) → k < commands t → outcome_from o (is_open t k) ≡ outcome t k → outcome_from o (is_open (t ++ Down ∷ []) k) ≡ outcome (t ++ Down ∷ []) k
ended-Down t k o l h = go (is_open t k) refl
  where
    below : nat_lt k (commands t) ≡ true
    below = grind (arith, nat_tests)

    ends : ends_at k (next t Down) ≡ true
    ends = ap (λ b. b && true) below

    shut : is_open (t ++ Down ∷ []) k ≡ false
    shut = is_open-push t Down k l ∙ ap (λ b. is_open t k && not b) ends ∙ and-false (is_open t k)

    after : outcome (t ++ Down ∷ []) k ≡ option_or (outcome t k) (Some Retry)
    after = outcome-push t Down k ∙ ap (λ b. option_or (outcome t k) (cond b (Some (result_at k (next t Down))) None)) ends

    closed : (o o' : Option Results) → outcome_from o false ≡ o' → outcome_from o false ≡ option_or o' (Some Retry)
    closed (Some r) o' e = ap (λ x. option_or x (Some Retry)) e
    closed None o' e = ap (λ x. option_or x (Some Retry)) e

    opened : (o : Option Results) → outcome_from o true ≡ None → outcome_from o false ≡ Some Retry
    opened None e = refl
    opened (Some r) e = cc

    go : (b : Bool) → is_open t k ≡ b → outcome_from o (is_open (t ++ Down ∷ []) k) ≡ outcome (t ++ Down ∷ []) k
    go true e =
        ap (outcome_from o) shut
        ∙ opened o (ap (outcome_from o) (sym e) ∙ h ∙ outcome-open t k e)
        ∙ ap (λ x. option_or x (Some Retry)) (sym (outcome-open t k e))
        ∙ sym after
    go false e = ap (outcome_from o) shut ∙ closed o (outcome t k) (ap (outcome_from o) (sym e) ∙ h) ∙ sym after

pub table-Down : (tb tb' : Table) (t : Trace) → IsTable tb t
    → tb'.link ≡ linked.Down → tb'.orders ≡ tb.orders → tb'.opened.items ≡ [] → tb'.outcomes.items ≡ tb.outcomes.items → tb'.seen.ranges ≡ []
    → IsTable tb' (t ++ Down ∷ [])
table-Down tb tb' t is e-link e-orders e-open e-outcomes e-seen =
    let more : orders (t ++ Down ∷ []) ≡ orders t + 0 = orders-push t Down in
    let numbered : tb.orders ≡ orders t = is.numbered in
    let same : commands (t ++ Down ∷ []) ≡ commands t + 0 = commands-push t Down in
    let down : is_up (t ++ Down ∷ []) ≡ false = is_up-push t Down in
    let cut : is_cut (t ++ Down ∷ []) ≡ false = is_cut-push t Down in
    record {
      up = ap is_link_up e-link ∙ sym down;
      cut = ap is_link_cut e-link ∙ sym cut;
      numbered = e-orders ∙ omega arith;
      listed = e-open ∙ sym (ap (map (open_entry (t ++ Down ∷ []))) (open_commands-down t));
      counted = ap length e-outcomes ∙ counted-keep tb t Down is refl;
      ended = λ k l. ap (λ os. outcome_from (get_or os k None) (is_open (t ++ Down ∷ []) k)) e-outcomes ∙ ended-Down t k (get_or tb.outcomes.items k None) (omega arith) (is.ended k (omega arith));
      had = λ n. ap (λ rs. verdict_in rs n) e-seen
          ∙ sym (ap (λ b. cond (b || is_cut (t ++ Down ∷ [])) (option_map (λ (m : Moment). verdict m.past m.event) (first_with (t ++ Down ∷ []) n)) None) down
          ∙ ap (λ b. cond b (option_map (λ (m : Moment). verdict m.past m.event) (first_with (t ++ Down ∷ []) n)) None) cut);
    }

-- Orders

pub stop-open : (t : Trace) (j : ℕ) → refusal t (Stop j) ≡ None → is_open t j ≡ true
stop-open t j r = go (is_up t) (is_open t j) r
  where
    go : (u o : Bool) → first_reason (reason_if (not u) NotUp) (first_reason (reason_if (not o) NoSuchCommand) (full t (Stop j))) ≡ None → o ≡ true
    go u true h = refl
    go true false h = cc
    go false false h = cc

-- a command that wasn't started was not stopped
not-stopped : (t : Trace) → was_taken t ≡ true → (k : ℕ) → commands t ≤ k → list_any (is_stop_of k) t ≡ false
not-stopped = snoc_induction (λ t. was_taken t ≡ true → (k : ℕ) → commands t ≤ k → list_any (is_stop_of k) t ≡ false) (λ h k l. refl) step
  where
    other : (t : Trace) (x : Event) (k : ℕ) → refusal t x ≡ None → commands t ≤ k → is_stop_of k x ≡ false
    other t (Stop j) k r l = let inside : j < commands t = open-is-started t j (stop-open t j r) in grind (arith, nat_tests)
    other t Up k r l = refl
    other t Go k r l = refl
    other t Cut k r l = refl
    other t Down k r l = refl
    other t (In n body) k r l = refl

    step : (t : Trace) (e : Event) → (was_taken t ≡ true → (k : ℕ) → commands t ≤ k → list_any (is_stop_of k) t ≡ false) → was_taken (t ++ e ∷ []) ≡ true → (k : ℕ) → commands (t ++ e ∷ []) ≤ k → list_any (is_stop_of k) (t ++ e ∷ []) ≡ false
    step t e ih h k l =
        let both : (was_taken t && is_none (refusal t e)) ≡ true = sym (was_taken-push t e) ∙ h in
        let grow : commands (t ++ e ∷ []) ≡ commands t + cond (is_go e) 1 0 = commands-push t e in
        let taken : refusal t e ≡ None = none-from (refusal t e) (and-right (was_taken t) (is_none (refusal t e)) both) in
        list_any-push (is_stop_of k) t e
        ∙ ap (λ b. b || is_stop_of k e) (ih (and-left (was_taken t) (is_none (refusal t e)) both) k (omega arith))
        ∙ other t e k taken (omega arith)

-- nor did it tell a code
last_rc-none : (t : Trace) (k : ℕ) → commands t ≤ k → last_rc t k ≡ None
last_rc-none = snoc_induction (λ t. (k : ℕ) → commands t ≤ k → last_rc t k ≡ None) (λ k l. refl) step
  where
    step : (t : Trace) (e : Event) → ((k : ℕ) → commands t ≤ k → last_rc t k ≡ None) → (k : ℕ) → commands (t ++ e ∷ []) ≤ k → last_rc (t ++ e ∷ []) k ≡ None
    step t e ih k l =
        let grow : commands (t ++ e ∷ []) ≡ commands t + cond (is_go e) 1 0 = commands-push t e in
        let above : nat_lt k (commands t) ≡ false = grind (arith, nat_tests) in
        let shut : updates k (next t e) ≡ false = rw above (and-false _) in
        last_rc-push t e k
        ∙ ap (λ b. option_or (cond b (rc_of e) None) (last_rc t k)) shut
        ∙ ih k (omega arith)

entry-Go : (t : Trace) → was_taken t ≡ true → open_entry (t ++ Go ∷ []) (commands t) ≡ entry (commands t) (orders t) false Exception
entry-Go t taken =
    ap (λ o. entry (commands t) o (list_any (is_stop_of (commands t)) (t ++ Go ∷ [])) (result_of_rc (last_rc (t ++ Go ∷ []) (commands t)))) (start_order-go t)
    ∙ ap (λ b. entry (commands t) (orders t) b (result_of_rc (last_rc (t ++ Go ∷ []) (commands t)))) (list_any-push (is_stop_of (commands t)) t Go ∙ ap (λ b. b || false) (not-stopped t taken (commands t) (omega arith)))
    ∙ ap (λ z. entry (commands t) (orders t) false (result_of_rc z)) (last_rc-push t Go (commands t) ∙ ap (λ z. option_or z (last_rc t (commands t))) (no-code t Go (commands t) refl) ∙ last_rc-none t (commands t) (omega arith))

seen-order : (t : Trace) (e : Event) (n : ℕ) → is_up t ≡ true → stays_up e ≡ true → is_request n e ≡ false → seen (t ++ e ∷ []) n ≡ seen t n
seen-order t e n up stays r = seen-stay t e n up stays ∙ ap (λ b. option_or (seen t n) (cond b (Some (verdict t e)) None)) r ∙ same (seen t n)
  where
    same : (o : Option Verdict) → option_or o None ≡ o
    same None = refl
    same (Some v) = refl

get_or-append-at : (xs : List (Option Results)) (k : ℕ) → k ≡ length xs → get_or (xs ++ None ∷ []) k None ≡ None
get_or-append-at [] zero e = refl
get_or-append-at [] (suc k) e = absurd (omega arith)
get_or-append-at (x ∷ xs) zero e = absurd (omega arith)
get_or-append-at (x ∷ xs) (suc k) e = get_or-append-at xs k (omega arith)

length-map : {A B : Type 0} (f : A → B) (xs : List A) → length (map f xs) ≡ length xs
length-map f [] = refl
length-map f (x ∷ xs) = ap suc (length-map f xs)

-- a start that isn't refused finds a place
pub go-room : (tb : Table) (t : Trace) → IsTable tb t → refusal t Go ≡ None → length tb.opened.items < 4
go-room tb t is r =
    let same : length tb.opened.items ≡ length (open_commands t) = ap length is.listed ∙ length-map (open_entry t) (open_commands t) in
    let few : nat_le 4 (length (open_commands t)) ≡ false = go (is_up t) (nat_le 4 (length (open_commands t))) r in
    grind (arith, nat_tests)
  where
    go : (u o : Bool) → first_reason (reason_if (not u) NotUp) (first_reason (reason_if o TooManyOpen) (full t Go)) ≡ None → o ≡ false
    go u false h = refl
    go true true h = cc
    go false true h = cc

pub table-Go : (tb tb' : Table) (t : Trace) → IsTable tb t → was_taken t ≡ true → refusal t Go ≡ None
    → tb'.link ≡ tb.link → tb'.orders ≡ tb.orders + 1 → tb'.opened.items ≡ tb.opened.items ++ entry (length tb.outcomes.items) tb.orders false Exception ∷ [] → tb'.outcomes.items ≡ tb.outcomes.items ++ None ∷ [] → tb'.seen.ranges ≡ tb.seen.ranges
    → IsTable tb' (t ++ Go ∷ [])
table-Go tb tb' t is taken r e-link e-orders e-open e-outcomes e-seen =
    let up : is_up t ≡ true = not-up t _ r in
    let numbered : tb.orders ≡ orders t = is.numbered in
    let more : orders (t ++ Go ∷ []) ≡ orders t + 1 = orders-push t Go in
    let longer : commands (t ++ Go ∷ []) ≡ commands t + 1 = commands-push t Go in
    record {
      up = ap is_link_up e-link ∙ is.up ∙ sym (is_up-push t Go ∙ or-false (is_up t));
      cut = ap is_link_cut e-link ∙ is.cut ∙ sym (is_cut-push t Go ∙ or-false (is_cut t));
      numbered = e-orders ∙ omega arith;
      listed = e-open
          ∙ ap (λ os. os ++ entry (length tb.outcomes.items) tb.orders false Exception ∷ []) (is.listed ∙ map-open t (open_entry t) (open_entry (t ++ Go ∷ [])) (λ k o. sym (entry-keep t Go k (open-is-started t k o) refl (no-code t Go k refl))))
          ∙ ap (λ x. map (open_entry (t ++ Go ∷ [])) (open_commands t) ++ x ∷ []) (ap (λ k. entry k tb.orders false Exception) is.counted ∙ ap (λ n. entry (commands t) n false Exception) is.numbered ∙ sym (entry-Go t taken))
          ∙ sym (map-append (open_entry (t ++ Go ∷ [])) (open_commands t) (commands t ∷ []))
          ∙ sym (ap (map (open_entry (t ++ Go ∷ []))) (open_commands-go t));
      counted = ap length e-outcomes ∙ length-append tb.outcomes.items (None ∷ []) ∙ ap (λ n. n + 1) is.counted ∙ sym longer;
      ended = λ k l. ap (λ os. outcome_from (get_or os k None) (is_open (t ++ Go ∷ []) k)) e-outcomes ∙ go k (cases_lt k (commands t)) (omega arith);
      had = λ n. ap (λ rs. verdict_in rs n) e-seen ∙ is.had n ∙ sym (seen-order t Go n up refl refl);
    }
  where
    go : (k : ℕ) → (k < commands t) ⊎ (commands t ≤ k) → k < commands t + 1 → outcome_from (get_or (tb.outcomes.items ++ None ∷ []) k None) (is_open (t ++ Go ∷ []) k) ≡ outcome (t ++ Go ∷ []) k
    go k (inl l) m =
        let at : IsKept t Go k = kept t Go k l (λ o. (ends-no t k).1) in
        let counted : length tb.outcomes.items ≡ commands t = is.counted in
        ap (λ x. outcome_from x (is_open (t ++ Go ∷ []) k)) (get_or-append tb.outcomes.items (None ∷ []) None k (omega arith))
        ∙ ap (outcome_from (get_or tb.outcomes.items k None)) at.same_open ∙ is.ended k l ∙ sym at.same_outcome
    go k (inr l) m =
        let counted : length tb.outcomes.items ≡ commands t = is.counted in
        let new : k ≡ commands t = omega arith in
        let nothing : IsNothing t k = not-started t k l in
        let none : outcome t k ≡ None = ap (option_map (result_at k)) nothing.no_end in
        ap (λ x. outcome_from x (is_open (t ++ Go ∷ []) k)) (get_or-append-at tb.outcomes.items k (omega arith))
        ∙ ap (λ j. outcome_from None (is_open (t ++ Go ∷ []) j)) new
        ∙ ap (outcome_from None) (is_open-go t)
        ∙ sym (outcome-push t Go k ∙ ap (λ o. option_or o (cond (ends_at k (next t Go)) (Some (result_at k (next t Go))) None)) none ∙ ap (λ b. cond b (Some (result_at k (next t Go))) None) (ends-no t k).1)

pub map-map : {A B C : Type 0} (f : A → B) (g : B → C) (xs : List A) → map g (map f xs) ≡ map (λ x. g (f x)) xs
map-map f g [] = refl
map-map f g (x ∷ xs) = ap (λ ys. g (f x) ∷ ys) (map-map f g xs)

entry-Stop : (t : Trace) (j k : ℕ) → k < commands t → open_entry (t ++ Stop j ∷ []) k ≡ with_stop j (open_entry t k)
entry-Stop t j k l =
    entry-push t (Stop j) k l
    ∙ ap (λ z. entry k (start_order t k) (list_any (is_stop_of k) t || (j == k)) (result_of_rc (option_or z (last_rc t k)))) (no-code t (Stop j) k refl)

pub table-Stop : (tb tb' : Table) (t : Trace) (j : ℕ) → IsTable tb t → refusal t (Stop j) ≡ None
    → tb'.link ≡ tb.link → tb'.orders ≡ tb.orders + 1 → tb'.opened.items ≡ map (with_stop j) tb.opened.items → tb'.outcomes.items ≡ tb.outcomes.items → tb'.seen.ranges ≡ tb.seen.ranges
    → IsTable tb' (t ++ Stop j ∷ [])
table-Stop tb tb' t j is r e-link e-orders e-open e-outcomes e-seen =
    let up : is_up t ≡ true = not-up t _ r in
    let numbered : tb.orders ≡ orders t = is.numbered in
    let more : orders (t ++ Stop j ∷ []) ≡ orders t + 1 = orders-push t (Stop j) in
    record {
      up = ap is_link_up e-link ∙ is.up ∙ sym (is_up-push t (Stop j) ∙ or-false (is_up t));
      cut = ap is_link_cut e-link ∙ is.cut ∙ sym (is_cut-push t (Stop j) ∙ or-false (is_cut t));
      numbered = e-orders ∙ omega arith;
      listed = e-open
          ∙ ap (map (with_stop j)) is.listed
          ∙ map-map (open_entry t) (with_stop j) (open_commands t)
          ∙ map-open t (λ k. with_stop j (open_entry t k)) (open_entry (t ++ Stop j ∷ [])) (λ k o. sym (entry-Stop t j k (open-is-started t k o)))
          ∙ sym (ap (map (open_entry (t ++ Stop j ∷ []))) (open_commands-keep t (Stop j) refl (λ k o. (ends-no t k).2 j)));
      counted = ap length e-outcomes ∙ counted-keep tb t (Stop j) is refl;
      ended = λ k l. ap (λ os. outcome_from (get_or os k None) (is_open (t ++ Stop j ∷ []) k)) e-outcomes ∙ ended-keep tb t (Stop j) is refl (λ k o. (ends-no t k).2 j) k l;
      had = λ n. ap (λ rs. verdict_in rs n) e-seen ∙ is.had n ∙ sym (seen-order t (Stop j) n up refl refl);
    }

-- Messages

-- the parts of the table that a message may change
pub record IsHeard (tb' : Table) (t : Trace) (e : Event) : Type 0 where
  pub listed : tb'.opened.items ≡ map (open_entry (t ++ e ∷ [])) (open_commands (t ++ e ∷ []))
  pub counted : length tb'.outcomes.items ≡ commands (t ++ e ∷ [])
  pub ended : (k : ℕ) → k < commands (t ++ e ∷ []) → outcome_from (get_or tb'.outcomes.items k None) (is_open (t ++ e ∷ []) k) ≡ outcome (t ++ e ∷ []) k

pub table-In : (tb tb' : Table) (t : Trace) (n : ℕ) (body : Body) → IsTable tb t → tb'.link ≡ tb.link → tb'.orders ≡ tb.orders → IsHeard tb' t (In n body)
    → ((m : ℕ) → verdict_in tb'.seen.ranges m ≡ seen (t ++ In n body ∷ []) m) → IsTable tb' (t ++ In n body ∷ [])
table-In tb tb' t n body is e-link e-orders heard had =
    let numbered : tb.orders ≡ orders t = is.numbered in
    let more : orders (t ++ In n body ∷ []) ≡ orders t + 0 = orders-push t (In n body) in
    record {
      up = ap is_link_up e-link ∙ is.up ∙ sym (is_up-push t (In n body) ∙ or-false (is_up t));
      cut = ap is_link_cut e-link ∙ is.cut ∙ sym (is_cut-push t (In n body) ∙ or-false (is_cut t));
      numbered = e-orders ∙ omega arith;
      listed = heard.listed;
      counted = heard.counted;
      ended = heard.ended;
      had = had;
    }

-- nothing that is kept of the commands changes
pub heard-nothing : (tb tb' : Table) (t : Trace) (n : ℕ) (body : Body) → IsTable tb t → tb'.opened.items ≡ tb.opened.items → tb'.outcomes.items ≡ tb.outcomes.items
    → ((k : ℕ) → is_open t k ≡ true → ends_at k (next t (In n body)) ≡ false) → ((k : ℕ) → cond (updates k (next t (In n body))) (rc_of (In n body)) None ≡ None) → IsHeard tb' t (In n body)
heard-nothing tb tb' t n body is e-open e-outcomes stays quiet = record {
  listed = e-open ∙ listed-keep tb t (In n body) is refl stays (record { no_stop = λ k. refl; no_code = quiet });
  counted = ap length e-outcomes ∙ counted-keep tb t (In n body) is refl;
  ended = λ k l. ap (λ os. outcome_from (get_or os k None) (is_open (t ++ In n body ∷ []) k)) e-outcomes ∙ ended-keep tb t (In n body) is refl stays k l;
}

-- no more orders than events
pub orders_le-length : (t : Trace) → orders t ≤ length t
orders_le-length = snoc_induction (λ t. orders t ≤ length t) (omega arith) step
  where
    step : (t : Trace) (e : Event) → orders t ≤ length t → orders (t ++ e ∷ []) ≤ length (t ++ e ∷ [])
    step t e ih =
        let longer : length (t ++ e ∷ []) ≡ length t + 1 = length-append t (e ∷ []) in
        subst (λ n. n ≤ length (t ++ e ∷ [])) (sym (orders-push t e)) (go (begins_session (next t e)) (is_order e) longer)
      where
        go : (b o : Bool) → length (t ++ e ∷ []) ≡ length t + 1 → cond b 0 (orders t + cond o 1 0) ≤ length (t ++ e ∷ [])
        go true o longer = omega arith
        go false true longer = omega arith
        go false false longer = omega arith
