-- What becomes of the table where a message of the worker is taken.
use Rattle.std.proofs.Common.{◌≡◌, refl, sym, ◌∙◌, ap, subst, ℕ, ◌+◌, ◌<◌, ◌≤◌, Bool, true, false, cond, not, ◌||◌, ◌&&◌, List, [], ◌∷◌, ◌++◌, length, map, set, get_or, Option, Some, None, arith, inl, inr}
use Rattle.std.specs.Prelude.{◌==◌, ◌⊎◌, nat_lt, is_none, option_map, unwrap_or, ℤ}
use Rattle.std.specs.List.{list_any, find, filter}
use Rattle.std.specs.Option.{option_or}
use Rattle.std.proofs.lemmas.Bool.Decides.{nat_tests}
use Rattle.std.proofs.lemmas.List.{length-set, get_or-set_same, get_or-set_other}
use Rattle.bm_session.proofs.Snoc.{and-true, and-false, or-false, filter-push}
use Rattle.std.proofs.Common.{zero, suc}
use Rattle.std.proofs.lemmas.Bool.{cases_lt}
use Rattle.std.proofs.lemmas.List.Folds.{find-append}
use Rattle.bm_session.proofs.Pushed.{next, commands-push}
use Rattle.bm_session.proofs.Taken.{open-is-started, sound}
use Rattle.bm_session.proofs.Listed.{find-map, filter-map, filter-open, map-open, map-open-filter, open_commands-push, open_commands-keep, was_order-start}
use Rattle.bm_session.proofs.Lookups.{find-open}
use Rattle.bm_session.proofs.Stepped.{entry, entry-push, entry-keep, no-code, IsKept, kept, seen-up, outcome-push, outcome-open, ended-keep, counted-keep, seen-stay, find-cong, ended_by-complete, ends-complete, ends-refusal, ends-nothing, is_new-seen, ended-complete, ended-none, ended-refusal, ends_nothing, no-repeat}
use Rattle.bm_session.proofs.Taking.{map-map, IsHeard, table-In, heard-nothing}
use Rattle.bm_session.specs.declared.event.Event.{Event}
use Rattle.bm_session.specs.declared.event.Event.TheVariants.{In}
use Rattle.bm_session.specs.declared.event.Body.{Body}
use Rattle.bm_session.specs.declared.event.Body.TheVariants.{Update, Complete, Answered}
use Rattle.bm_session.specs.declared.reply.Verdict.{Verdict}
use Rattle.bm_session.specs.declared.reply.Reply.TheVariants.{Answer}
use Rattle.bm_session.specs.declared.results.Results.{Results}
use Rattle.bm_session.specs.declared.item.Item.TheVariants.{End}
use Rattle.bm_session.specs.declared.seen.Seen.{Seen}
use Rattle.bm_session.specs.declared.open.Open.{Open}
use Rattle.bm_session.specs.declared.table.Table.{Table}
use Rattle.bm_lines.specs.declared.line_batch.LogLines.{LogLines}
use Rattle.bm_session.specs.Events.{is_fault, is_request, is_stop_of, rc_of}
use Rattle.bm_session.specs.Seen.{verdict_in}
use Rattle.bm_session.specs.Ranges.{HoldsAlso}
use Rattle.bm_session.specs.Trace.{Trace, below, commands, is_up, is_new, is_fresh, was_order, ends_at, is_open, open_commands, ended_by, updates, last_rc, result_of_rc, verdict, seen, outcome, result_at, item, answer, reply, was_taken}
use Rattle.bm_session.specs.Table.{IsTable, start_order, open_entry, outcome_from, with_told, ends_as, asks}

-- An exit code
entry-Update : (t : Trace) (n j : ℕ) (batch : List LogLines) (z : ℤ) (k : ℕ) → is_new t n ≡ true → is_open t k ≡ true
    → with_told j (result_of_rc (Some z)) (open_entry t k) ≡ open_entry (t ++ In n (Update j batch (Some z)) ∷ []) k
entry-Update t n j batch z k new o =
    sym (entry-push t (In n (Update j batch (Some z))) k (open-is-started t k o)
    ∙ ap (λ b. entry k (start_order t k) b (result_of_rc (option_or (cond (updates k (next t (In n (Update j batch (Some z))))) (Some z) None) (last_rc t k)))) (or-false (list_any (is_stop_of k) t))
    ∙ ap (λ b. entry k (start_order t k) (list_any (is_stop_of k) t) (result_of_rc (option_or (cond (b && (j == k) && is_open t k) (Some z) None) (last_rc t k)))) new
    ∙ ap (λ b. entry k (start_order t k) (list_any (is_stop_of k) t) (result_of_rc (option_or (cond ((j == k) && b) (Some z) None) (last_rc t k)))) o
    ∙ ap (λ b. entry k (start_order t k) (list_any (is_stop_of k) t) (result_of_rc (option_or (cond b (Some z) None) (last_rc t k)))) (and-true (j == k))
    ∙ ap (entry k (start_order t k) (list_any (is_stop_of k) t)) (go (j == k)))
  where
    go : (b : Bool) → result_of_rc (option_or (cond b (Some z) None) (last_rc t k)) ≡ cond b (result_of_rc (Some z)) (result_of_rc (last_rc t k))
    go true = refl
    go false = refl

pub heard-code : (tb tb' : Table) (t : Trace) (n j : ℕ) (batch : List LogLines) (z : ℤ) → IsTable tb t → is_new t n ≡ true
    → tb'.opened.items ≡ map (with_told j (result_of_rc (Some z))) tb.opened.items → tb'.outcomes.items ≡ tb.outcomes.items → IsHeard tb' t (In n (Update j batch (Some z)))
heard-code tb tb' t n j batch z is new e-open e-outcomes = record {
  listed = e-open
      ∙ ap (map (with_told j (result_of_rc (Some z)))) is.listed
      ∙ map-map (open_entry t) (with_told j (result_of_rc (Some z))) (open_commands t)
      ∙ map-open t (λ k. with_told j (result_of_rc (Some z)) (open_entry t k)) (open_entry (t ++ In n (Update j batch (Some z)) ∷ [])) (λ k o. entry-Update t n j batch z k new o)
      ∙ sym (ap (map (open_entry (t ++ In n (Update j batch (Some z)) ∷ []))) (open_commands-keep t (In n (Update j batch (Some z))) refl (λ k o. ends-nothing t n (Update j batch (Some z)) k refl)));
  counted = ap length e-outcomes ∙ counted-keep tb t (In n (Update j batch (Some z))) is refl;
  ended = λ k l.
      ap (λ os. outcome_from (get_or os k None) (is_open (t ++ In n (Update j batch (Some z)) ∷ []) k)) e-outcomes
      ∙ ended-keep tb t (In n (Update j batch (Some z))) is refl (λ k o. ends-nothing t n (Update j batch (Some z)) k refl) k l;
}

-- the event ends command k0 and no other open one
pub record IsEnded (t : Trace) (e : Event) (k0 : ℕ) : Type 0 where
  pub opened : is_open t k0 ≡ true
  pub here : ends_at k0 (next t e) ≡ true
  pub alone : (k : ℕ) → is_open t k ≡ true → ends_at k (next t e) ≡ (k0 == k)

same-number : (k : ℕ) → (k == k) ≡ true
same-number k = grind (arith, nat_tests)

pub ended-complete-at : (t : Trace) (n j : ℕ) (f : Bool) (k0 : ℕ) → ended_by t (In n (Complete j f)) ≡ Some k0 → IsEnded t (In n (Complete j f)) k0
ended-complete-at t n j f k0 e = go (is_new t n) (is_open t j) refl refl (sym (ended_by-complete t n j f ∙ ap (λ o. cond (is_new t n) o None) (find-open t j)) ∙ e)
  where
    go : (a b : Bool) → is_new t n ≡ a → is_open t j ≡ b → cond (is_new t n) (cond (is_open t j) (Some j) None) None ≡ Some k0 → IsEnded t (In n (Complete j f)) k0
    go true true new o h =
        let at : j ≡ k0 = some (ap (λ x. cond x (cond (is_open t j) (Some j) None) None) (sym new) ∙ h) in
        record {
          opened = ap (is_open t) (sym at) ∙ o;
          here = ap (λ k. ends_at k (next t (In n (Complete j f)))) (sym at) ∙ ends-complete t n j f j o ∙ ap (λ x. x && (j == j)) new ∙ same-number j;
          alone = λ k ok. ends-complete t n j f k ok ∙ ap (λ x. x && (j == k)) new ∙ ap (λ x. x == k) at;
        }
      where
        some : cond true (cond (is_open t j) (Some j) None) None ≡ Some k0 → j ≡ k0
        some g = let h' : Some j ≡ Some k0 = ap (λ x. cond x (Some j) None) (sym o) ∙ g in cc
    go true false new o h = let no_one : None ≡ Some k0 = ap (λ x. cond x (Some j) None) (sym o) ∙ ap (λ x. cond x (cond (is_open t j) (Some j) None) None) (sym new) ∙ h in cc
    go false b new o h = let no_one : None ≡ Some k0 = ap (λ x. cond x (cond (is_open t j) (Some j) None) None) (sym new) ∙ h in cc

find-some : (p q : ℕ → Bool) (xs : List ℕ) (x : ℕ) → find p (filter q xs) ≡ Some x → (p x ≡ true) × (q x ≡ true)
find-some p q [] x e = cc
find-some p q (y ∷ ys) x e = go (q y) (p y) refl refl e (λ h. find-some p q ys x h)
  where
    go : (a b : Bool) → q y ≡ a → p y ≡ b → find p (cond a (y ∷ filter q ys) (filter q ys)) ≡ Some x → (find p (filter q ys) ≡ Some x → (p x ≡ true) × (q x ≡ true)) → (p x ≡ true) × (q x ≡ true)
    go true true qy py h ih =
        let at : Some y ≡ Some x = ap (λ b. cond b (Some y) (find p (filter q ys))) (sym py) ∙ h in
        let at' : y ≡ x = cc in
        (ap p (sym at') ∙ py, ap q (sym at') ∙ qy)
    go true false qy py h ih = ih (ap (λ b. cond b (Some y) (find p (filter q ys))) (sym py) ∙ h)
    go false b qy py h ih = ih h

pub ended-refusal-at : (t : Trace) (n k0 : ℕ) → was_taken t ≡ true → ended_by t (In n (Answered true)) ≡ Some k0 → IsEnded t (In n (Answered true)) k0
ended-refusal-at t n k0 taken e =
    let found = find-some (λ k. start_order t k == n) (is_open t) (below (commands t)) k0 (sym (find-cong t (λ k. ends_at k (next t (In n (Answered true)))) (λ k. start_order t k == n) (ends-refusal t n)) ∙ e) in
    record {
      opened = found.1;
      here = ends-refusal t n k0 found.1 ∙ found.0;
      alone = λ k o. ends-refusal t n k o ∙ go k o found.0 found.1 (start_order t k == n) refl;
    }
  where
    ordered : (k : ℕ) → is_open t k ≡ true → (start_order t k == n) ≡ true → was_order t k n ≡ true
    ordered k o s = was_order-start t k n (open-is-started t k o) ∙ s

    go : (k : ℕ) → is_open t k ≡ true → (start_order t k0 == n) ≡ true → is_open t k0 ≡ true → (b : Bool) → (start_order t k == n) ≡ b → (start_order t k == n) ≡ (k0 == k)
    go k o s0 o0 true s =
        let at : k0 ≡ k = (sound t taken).apart k0 k n o0 o (ordered k0 o0 s0) (ordered k o s) in
        s ∙ sym (ap (λ x. k0 == x) (sym at) ∙ same-number k0)
    go k o s0 o0 false s = s ∙ sym (other (k0 == k) refl)
      where
        other : (b : Bool) → (k0 == k) ≡ b → (k0 == k) ≡ false
        other false h = h
        other true h =
            let at : k0 ≡ k = grind (arith, nat_tests) in
            let clash : (start_order t k == n) ≡ true = ap (λ x. start_order t x == n) (sym at) ∙ s0 in
            cc

pub heard-end : (tb tb' : Table) (t : Trace) (n : ℕ) (body : Body) (k0 : ℕ) → IsTable tb t → IsEnded t (In n body) k0 → rc_of (In n body) ≡ None
    → tb'.opened.items ≡ filter (λ (o : Open). not (k0 == o.command)) tb.opened.items
    → tb'.outcomes.items ≡ set tb.outcomes.items k0 (Some (result_at k0 (next t (In n body)))) → IsHeard tb' t (In n body)
heard-end tb tb' t n body k0 is ends no_rc e-open e-outcomes =
    let inside : k0 < commands t = open-is-started t k0 ends.opened in
    let counted : length tb.outcomes.items ≡ commands t = is.counted in
    record {
      listed = e-open
          ∙ ap (filter (λ (o : Open). not (k0 == o.command))) is.listed
          ∙ filter-map (open_entry t) (λ (o : Open). not (k0 == o.command)) (open_commands t)
          ∙ map-open-filter t (λ k. not (k0 == k)) (open_entry t) (open_entry (t ++ In n body ∷ [])) (λ k o. sym (entry-keep t (In n body) k (open-is-started t k o) refl (no-code t (In n body) k no_rc)))
          ∙ sym (ap (map (open_entry (t ++ In n body ∷ []))) (open_commands-push t (In n body) refl ∙ filter-open t (λ k. not (ends_at k (next t (In n body)))) (λ k. not (k0 == k)) (λ k o. ap not (ends.alone k o))));
      counted = ap length e-outcomes ∙ length-set tb.outcomes.items k0 (Some (result_at k0 (next t (In n body)))) ∙ counted-keep tb t (In n body) is refl;
      ended = λ k l.
          let same : commands (t ++ In n body ∷ []) ≡ commands t + 0 = commands-push t (In n body) in
          ap (λ os. outcome_from (get_or os k None) (is_open (t ++ In n body ∷ []) k)) e-outcomes ∙ go k (omega arith) (k0 == k) refl (omega arith);
    }
  where
    go : (k : ℕ) → k < commands t → (b : Bool) → (k0 == k) ≡ b → k0 < length tb.outcomes.items
        → outcome_from (get_or (set tb.outcomes.items k0 (Some (result_at k0 (next t (In n body))))) k None) (is_open (t ++ In n body ∷ []) k) ≡ outcome (t ++ In n body ∷ []) k
    go k l true e inside =
        let at : k0 ≡ k = grind (arith, nat_tests) in
        ap (λ j. outcome_from (get_or (set tb.outcomes.items k0 (Some (result_at k0 (next t (In n body))))) j None) (is_open (t ++ In n body ∷ []) j)) (sym at)
        ∙ ap (λ x. outcome_from x (is_open (t ++ In n body ∷ []) k0)) (get_or-set_same tb.outcomes.items k0 (Some (result_at k0 (next t (In n body)))) None inside)
        ∙ sym (outcome-push t (In n body) k0 ∙ ap (λ o. option_or o (cond (ends_at k0 (next t (In n body))) (Some (result_at k0 (next t (In n body)))) None)) (outcome-open t k0 ends.opened) ∙ ap (λ b. cond b (Some (result_at k0 (next t (In n body)))) None) ends.here)
        ∙ ap (outcome (t ++ In n body ∷ [])) at
    go k l false e inside =
        let kept_at : IsKept t (In n body) k = kept t (In n body) k l (λ o. ends.alone k o ∙ e) in
        let apart : k ≡ k0 → ⊥ = λ h. let clash : (k0 == k) ≡ true = ap (λ x. x == k) (sym h) ∙ same-number k in cc in
        ap (λ x. outcome_from x (is_open (t ++ In n body ∷ []) k)) (get_or-set_other tb.outcomes.items k0 k (Some (result_at k0 (next t (In n body)))) None apart)
        ∙ ap (outcome_from (get_or tb.outcomes.items k None)) kept_at.same_open ∙ is.ended k l ∙ sym kept_at.same_outcome

-- how it ends
pub result-ends_as : (t : Trace) (n : ℕ) (body : Body) (k : ℕ) (fault : Bool) → is_fault (In n body) ≡ fault → ends_as (open_entry t k) fault ≡ result_at k (next t (In n body))
result-ends_as t n body k fault e = ap (ends_as (open_entry t k)) (sym e)

-- Numbers
request-asks : (m n : ℕ) (body : Body) → is_request m (In n body) ≡ (asks body && (n == m))
request-asks m n (Answered f) = refl
request-asks m n body = refl

kept-none : (o : Option Verdict) → option_or o None ≡ o
kept-none None = refl
kept-none (Some v) = refl

pub had-response : (tb : Table) (t : Trace) (n : ℕ) (body : Body) → IsTable tb t → is_up t ≡ true → asks body ≡ false → (m : ℕ) → verdict_in tb.seen.ranges m ≡ seen (t ++ In n body ∷ []) m
had-response tb t n body is up r m =
    is.had m
    ∙ sym (seen-stay t (In n body) m up refl
    ∙ ap (λ b. option_or (seen t m) (cond b (Some (verdict t (In n body))) None)) (request-asks m n body ∙ ap (λ b. b && (n == m)) r)
    ∙ kept-none (seen t m))

pub had-repeat : (tb : Table) (t : Trace) (n : ℕ) (body : Body) (v : Verdict) → IsTable tb t → is_up t ≡ true → asks body ≡ true → verdict_in tb.seen.ranges n ≡ Some v → (m : ℕ) → verdict_in tb.seen.ranges m ≡ seen (t ++ In n body ∷ []) m
had-repeat tb t n body v is up r had m =
    is.had m
    ∙ sym (seen-stay t (In n body) m up refl
    ∙ ap (λ b. option_or (seen t m) (cond b (Some (verdict t (In n body))) None)) (request-asks m n body ∙ ap (λ b. b && (n == m)) r)
    ∙ go (n == m) refl)
  where
    go : (b : Bool) → (n == m) ≡ b → option_or (seen t m) (cond b (Some (verdict t (In n body))) None) ≡ seen t m
    go false e = kept-none (seen t m)
    go true e =
        let at : n ≡ m = grind (arith, nat_tests) in
        let known : seen t m ≡ Some v = ap (seen t) (sym at) ∙ sym (is.had n) ∙ had in
        ap (λ o. option_or o (Some (verdict t (In n body)))) known ∙ sym known

pub had-fresh : (tb : Table) (rs : List Seen) (t : Trace) (n : ℕ) (body : Body) → IsTable tb t → is_up t ≡ true → asks body ≡ true → verdict_in tb.seen.ranges n ≡ None → HoldsAlso tb.seen.ranges rs n (verdict t (In n body)) → (m : ℕ) → verdict_in rs m ≡ seen (t ++ In n body ∷ []) m
had-fresh tb rs t n body is up r new holds m =
    holds.exact m
    ∙ ap (λ o. cond (m == n) (Some (verdict t (In n body))) o) (is.had m)
    ∙ go (n == m) refl
    ∙ sym (seen-stay t (In n body) m up refl
    ∙ ap (λ b. option_or (seen t m) (cond b (Some (verdict t (In n body))) None)) (request-asks m n body ∙ ap (λ b. b && (n == m)) r))
  where
    go : (b : Bool) → (n == m) ≡ b → cond (m == n) (Some (verdict t (In n body))) (seen t m) ≡ option_or (seen t m) (cond (n == m) (Some (verdict t (In n body))) None)
    go true e =
        let at : n ≡ m = grind (arith, nat_tests) in
        let turned : (m == n) ≡ true = grind (arith, nat_tests) in
        let none : seen t m ≡ None = ap (seen t) (sym at) ∙ sym (is.had n) ∙ new in
        ap (λ b. cond b (Some (verdict t (In n body))) (seen t m)) turned
        ∙ sym (ap (λ o. option_or o (cond (n == m) (Some (verdict t (In n body))) None)) none ∙ ap (λ b. cond b (Some (verdict t (In n body))) None) e)
    go false e =
        let turned : (m == n) ≡ false = grind (arith, nat_tests) in
        ap (λ b. cond b (Some (verdict t (In n body))) (seen t m)) turned
        ∙ sym (ap (λ b. option_or (seen t m) (cond b (Some (verdict t (In n body))) None)) e ∙ kept-none (seen t m))

-- What a message ends, as the code finds it
pub ended-Complete : (tb : Table) (t : Trace) (n j : ℕ) (f : Bool) (r : Option Open) → IsTable tb t → is_new t n ≡ true → r ≡ find (λ (o : Open). j == o.command) tb.opened.items → r ≡ option_map (open_entry t) (ended_by t (In n (Complete j f)))
ended-Complete tb t n j f r is new e = e ∙ sym (ap (λ b. cond b (find (λ (o : Open). j == o.command) tb.opened.items) None) new) ∙ ended-complete tb t n j f is

pub ended-Repeat : (tb : Table) (t : Trace) (n j : ℕ) (f : Bool) → IsTable tb t → is_new t n ≡ false → None ≡ option_map (open_entry t) (ended_by t (In n (Complete j f)))
ended-Repeat tb t n j f is new = sym (ap (λ b. cond b (find (λ (o : Open). j == o.command) tb.opened.items) None) new) ∙ ended-complete tb t n j f is

-- the command whose entry was found
pub found-entry : (t : Trace) (o : Option ℕ) (x : Open) → option_map (open_entry t) o ≡ Some x → (k : ℕ) × (o ≡ Some k) × (open_entry t k ≡ x)
found-entry t None x e = cc
found-entry t (Some k) x e = (k, refl, cc)

item-ended : (t : Trace) (n : ℕ) (body : Body) (k : ℕ) → ended_by t (In n body) ≡ Some k → item t (In n body) ≡ Some (End k (result_at k (next t (In n body))))
item-ended t n (Update j batch rc) k e =
    let no_end : None ≡ option_map (open_entry t) (ended_by t (In n (Update j batch rc))) = ended-none t n (Update j batch rc) refl in
    let clash : None ≡ Some (open_entry t k) = no_end ∙ ap (option_map (open_entry t)) e in
    cc
item-ended t n body k e = ap (option_map (λ j. End j (result_at j (next t (In n body))))) e

pub item-end : (t : Trace) (n : ℕ) (body : Body) (x : Open) (fault : Bool) (r : Results) → option_map (open_entry t) (ended_by t (In n body)) ≡ Some x → fault ≡ is_fault (In n body) → r ≡ ends_as x fault → Some (End x.command r) ≡ item t (In n body)
item-end t n body x fault r e f is =
    let found = found-entry t (ended_by t (In n body)) x e in
    ap (λ (o : Open). Some (End o.command r)) (sym found.2)
    ∙ ap (λ y. Some (End found.0 y)) (is ∙ ap (λ o. ends_as o fault) (sym found.2) ∙ result-ends_as t n body found.0 fault (sym f))
    ∙ sym (item-ended t n body found.0 found.1)

-- What is taken, as the code takes it: an entry that was found is that of an open command
pub listed-inside : (tb : Table) (t : Trace) (p : Open → Bool) (x : Open) → IsTable tb t → find p tb.opened.items ≡ Some x → x.command < length tb.outcomes.items
listed-inside tb t p x is e =
    let found = found-entry t (find (λ k. p (open_entry t k)) (open_commands t)) x (sym (find-map (open_entry t) p (open_commands t)) ∙ ap (find p) (sym is.listed) ∙ e) in
    let both = find-some (λ k. p (open_entry t k)) (is_open t) (below (commands t)) found.0 found.1 in
    let inside : found.0 < commands t = open-is-started t found.0 both.1 in
    let at : found.0 ≡ x.command = ap (λ (o : Open). o.command) found.2 in
    let counted : length tb.outcomes.items ≡ commands t = is.counted in
    omega arith

not-asked : (body : Body) → ((f : Bool) → body ≡ Answered f → ⊥) → asks body ≡ true
not-asked (Answered f) h = absurd (h f refl)
not-asked body h = refl

pub asks-other : (body : Body) → ((f : Bool) → body ≡ Answered f → ⊥) → asks body ≡ true
asks-other body h = not-asked body h

pub reply-asks : (t : Trace) (n : ℕ) (body : Body) (v : Verdict) → asks body ≡ true → v ≡ answer t n (In n body) → Answer n v ≡ reply t (In n body)
reply-asks t n (Answered f) v a e = cc
reply-asks t n body v a e = ap (Answer n) e

-- what is left of the table by the end of a command
pub record IsClosed (tb tb' : Table) (x : Open) (fault : Bool) : Type 0 where
  pub listed : tb'.opened.items ≡ filter (λ (o : Open). not (x.command == o.command)) tb.opened.items
  pub ended : tb'.outcomes.items ≡ set tb.outcomes.items x.command (Some (ends_as x fault))
  pub link : tb'.link ≡ tb.link
  pub orders : tb'.orders ≡ tb.orders

closed-end : (tb tb' : Table) (t : Trace) (n : ℕ) (body : Body) (k : ℕ) (x : Open) (fault : Bool) → IsTable tb t → IsEnded t (In n body) k → open_entry t k ≡ x → is_fault (In n body) ≡ fault → rc_of (In n body) ≡ None → IsClosed tb tb' x fault → IsHeard tb' t (In n body)
closed-end tb tb' t n body k x fault is ends at f no_rc closed =
    let same : k ≡ x.command = ap (λ (o : Open). o.command) at in
    heard-end tb tb' t n body k is ends no_rc
    (closed.listed ∙ ap (λ j. filter (λ (o : Open). not (j == o.command)) tb.opened.items) (sym same))
    (closed.ended ∙ ap (λ j. set tb.outcomes.items j (Some (ends_as x fault))) (sym same) ∙ ap (λ r. set tb.outcomes.items k (Some r)) (ap (λ o. ends_as o fault) (sym at) ∙ result-ends_as t n body k fault f))

pub taken-refusal : (tb tb' : Table) (t : Trace) (n : ℕ) (x : Open) → IsTable tb t → was_taken t ≡ true → is_up t ≡ true → find (λ (o : Open). o.order == n) tb.opened.items ≡ Some x → IsClosed tb tb' x true → tb'.seen.ranges ≡ tb.seen.ranges → IsTable tb' (t ++ In n (Answered true) ∷ [])
taken-refusal tb tb' t n x is taken up e closed e-seen =
    let found = found-entry t (ended_by t (In n (Answered true))) x (sym (ended-refusal tb t n is) ∙ e) in
    table-In tb tb' t n (Answered true) is closed.link closed.orders
    (closed-end tb tb' t n (Answered true) found.0 x true is (ended-refusal-at t n found.0 taken found.1) found.2 refl refl closed)
    (λ m. ap (λ rs. verdict_in rs m) e-seen ∙ had-response tb t n (Answered true) is up refl m)

-- where no end is found, none is there
find-fails : (p q : ℕ → Bool) (n k : ℕ) → find p (filter q (below n)) ≡ None → k < n → q k ≡ true → p k ≡ false
find-fails p q zero k e l qk = absurd (omega arith)
find-fails p q (suc n) k e l qk = go (cases_lt k n) (λ h g. find-fails p q n k h g qk)
  where
    parts : option_or (find p (filter q (below n))) (find p (cond (q n) (n ∷ []) [])) ≡ None
    parts = sym (ap (find p) (filter-push q (below n) n) ∙ find-append p (filter q (below n)) (cond (q n) (n ∷ []) [])) ∙ e

    left : (o o' : Option ℕ) → option_or o o' ≡ None → (o ≡ None) × (o' ≡ None)
    left None o' h = (refl, h)
    left (Some x) o' h = cc

    one : (b : Bool) → p n ≡ b → find p (n ∷ []) ≡ None → p n ≡ false
    one false h g = h
    one true h g = let clash : Some n ≡ None = ap (λ x. cond x (Some n) None) (sym h) ∙ g in cc

    go : (k < n) ⊎ (n ≤ k) → (find p (filter q (below n)) ≡ None → k < n → p k ≡ false) → p k ≡ false
    go (inl l') ih = ih (left _ _ parts).0 l'
    go (inr l') ih =
        let at : n ≡ k = omega arith in
        let here : q n ≡ true = ap q at ∙ qk in
        ap p (sym at) ∙ one (p n) refl (ap (λ b. find p (cond b (n ∷ []) [])) (sym here) ∙ (left _ _ parts).1)

unfound : (t : Trace) (e : Event) → ended_by t e ≡ None → (k : ℕ) → is_open t k ≡ true → ends_at k (next t e) ≡ false
unfound t e none k o = find-fails (λ j. ends_at j (next t e)) (is_open t) (commands t) k none (open-is-started t k o) o

-- a refusal of no open command's start
pub untaken-refusal : (tb tb' : Table) (t : Trace) (n : ℕ) → IsTable tb t → is_up t ≡ true → find (λ (o : Open). o.order == n) tb.opened.items ≡ None → tb' ≡ tb → IsTable tb' (t ++ In n (Answered true) ∷ [])
untaken-refusal tb tb' t n is up e same =
    subst (λ x. IsTable x (t ++ In n (Answered true) ∷ [])) (sym same)
    (table-In tb tb t n (Answered true) is refl refl
    (heard-nothing tb tb t n (Answered true) is refl refl (λ k o. none-ends k o) (λ k. no-code t (In n (Answered true)) k refl))
    (had-response tb t n (Answered true) is up refl))
  where
    empty : (o : Option ℕ) → option_map (open_entry t) o ≡ None → o ≡ None
    empty None h = refl
    empty (Some k) h = cc

    none-ends : (k : ℕ) → is_open t k ≡ true → ends_at k (next t (In n (Answered true))) ≡ false
    none-ends k o = unfound t (In n (Answered true)) (empty (ended_by t (In n (Answered true))) (sym (ended-refusal tb t n is) ∙ e)) k o

-- Fresh requests
had-insert : (tb : Table) (rs : List Seen) (t : Trace) (n : ℕ) (body : Body) (v : Verdict) → IsTable tb t → is_up t ≡ true → asks body ≡ true → verdict_in tb.seen.ranges n ≡ None → v ≡ verdict t (In n body) → HoldsAlso tb.seen.ranges rs n v → (m : ℕ) → verdict_in rs m ≡ seen (t ++ In n body ∷ []) m
had-insert tb rs t n body v is up a new e holds = had-fresh tb rs t n body is up a new (subst (HoldsAlso tb.seen.ranges rs n) e holds)

pub fresh-new : (tb : Table) (t : Trace) (n : ℕ) → IsTable tb t → is_up t ≡ true → verdict_in tb.seen.ranges n ≡ None → is_new t n ≡ true
fresh-new tb t n is up new = sym (is_new-seen t n up) ∙ ap (λ o. is_none o) (sym (is.had n) ∙ new)

-- what the number's ranges become
pub record IsFresh (tb tb' : Table) (n : ℕ) (v : Verdict) : Type 0 where
  pub new : verdict_in tb.seen.ranges n ≡ None
  pub holds : HoldsAlso tb.seen.ranges tb'.seen.ranges n v

pub taken-code : (tb tb' : Table) (t : Trace) (n j : ℕ) (batch : List LogLines) (z : ℤ) (v : Verdict) → IsTable tb t → is_up t ≡ true → IsFresh tb tb' n v → v ≡ verdict t (In n (Update j batch (Some z)))
    → tb'.link ≡ tb.link → tb'.orders ≡ tb.orders → tb'.outcomes ≡ tb.outcomes → tb'.opened.items ≡ map (with_told j (result_of_rc (Some z))) tb.opened.items → IsTable tb' (t ++ In n (Update j batch (Some z)) ∷ [])
taken-code tb tb' t n j batch z v is up fresh e e-link e-orders e-outcomes e-open =
    table-In tb tb' t n (Update j batch (Some z)) is e-link e-orders
    (heard-code tb tb' t n j batch z is (fresh-new tb t n is up fresh.new) e-open (ap (λ o. o.items) e-outcomes))
    (had-insert tb tb'.seen.ranges t n (Update j batch (Some z)) v is up refl fresh.new e fresh.holds)

pub taken-complete : (tb tb' : Table) (t : Trace) (n j : ℕ) (f : Bool) (v : Verdict) (x : Open) → IsTable tb t → is_up t ≡ true → IsFresh tb tb' n v → v ≡ verdict t (In n (Complete j f))
    → find (λ (o : Open). j == o.command) tb.opened.items ≡ Some x → IsClosed tb tb' x f → IsTable tb' (t ++ In n (Complete j f) ∷ [])
taken-complete tb tb' t n j f v x is up fresh e at closed =
    let found = found-entry t (ended_by t (In n (Complete j f))) x (sym (ended-Complete tb t n j f (find (λ (o : Open). j == o.command) tb.opened.items) is (fresh-new tb t n is up fresh.new) refl) ∙ at) in
    table-In tb tb' t n (Complete j f) is closed.link closed.orders
    (closed-end tb tb' t n (Complete j f) found.0 x f is (ended-complete-at t n j f found.0 found.1) found.2 (fault-of f) refl closed)
    (had-insert tb tb'.seen.ranges t n (Complete j f) v is up refl fresh.new e fresh.holds)
  where
    fault-of : (f : Bool) → is_fault (In n (Complete j f)) ≡ f
    fault-of true = refl
    fault-of false = refl

-- a request that ends nothing and tells no code
pub taken-quiet : (tb tb' : Table) (t : Trace) (n : ℕ) (body : Body) (v : Verdict) → IsTable tb t → is_up t ≡ true → IsFresh tb tb' n v → v ≡ verdict t (In n body) → asks body ≡ true
    → ended_by t (In n body) ≡ None → rc_of (In n body) ≡ None → tb'.link ≡ tb.link → tb'.orders ≡ tb.orders → tb'.outcomes ≡ tb.outcomes → tb'.opened ≡ tb.opened → IsTable tb' (t ++ In n body ∷ [])
taken-quiet tb tb' t n body v is up fresh e a none no_rc e-link e-orders e-outcomes e-open =
    table-In tb tb' t n body is e-link e-orders
    (heard-nothing tb tb' t n body is (ap (λ o. o.items) e-open) (ap (λ o. o.items) e-outcomes) (λ k o. unfound t (In n body) none k o) (λ k. no-code t (In n body) k no_rc))
    (had-insert tb tb'.seen.ranges t n body v is up a fresh.new e fresh.holds)

empty-entry : (t : Trace) (o : Option ℕ) → option_map (open_entry t) o ≡ None → o ≡ None
empty-entry t None h = refl
empty-entry t (Some k) h = cc

pub ends-none : (t : Trace) (n : ℕ) (body : Body) → ends_nothing body ≡ true → ended_by t (In n body) ≡ None
ends-none t n body h = empty-entry t (ended_by t (In n body)) (sym (ended-none t n body h))

pub complete-none : (tb : Table) (t : Trace) (n j : ℕ) (f : Bool) → IsTable tb t → is_up t ≡ true → verdict_in tb.seen.ranges n ≡ None → find (λ (o : Open). j == o.command) tb.opened.items ≡ None → ended_by t (In n (Complete j f)) ≡ None
complete-none tb t n j f is up new none = empty-entry t (ended_by t (In n (Complete j f))) (sym (ended-Complete tb t n j f (find (λ (o : Open). j == o.command) tb.opened.items) is (fresh-new tb t n is up new) refl) ∙ none)

-- Messages that change nothing
pub taken-response : (tb : Table) (t : Trace) (n : ℕ) → IsTable tb t → is_up t ≡ true → IsTable tb (t ++ In n (Answered false) ∷ [])
taken-response tb t n is up =
    table-In tb tb t n (Answered false) is refl refl
    (heard-nothing tb tb t n (Answered false) is refl refl (λ k o. ends-nothing t n (Answered false) k refl) (λ k. no-code t (In n (Answered false)) k refl))
    (had-response tb t n (Answered false) is up refl)

-- a repeat
pub taken-repeat : (tb : Table) (t : Trace) (n : ℕ) (body : Body) (v : Verdict) → IsTable tb t → is_up t ≡ true → asks body ≡ true → verdict_in tb.seen.ranges n ≡ Some v → IsTable tb (t ++ In n body ∷ [])
taken-repeat tb t n body v is up a had =
    let old : is_new t n ≡ false = sym (is_new-seen t n up) ∙ ap (λ o. is_none o) (sym (is.had n) ∙ had) in
    table-In tb tb t n body is refl refl
    (heard-nothing tb tb t n body is refl refl (λ k o. repeat-ends body a old k) (λ k. no-repeat t (In n body) k (repeat-fresh body a old)))
    (had-repeat tb t n body v is up a had)
  where
    repeat-fresh : (b : Body) → asks b ≡ true → is_new t n ≡ false → is_fresh (next t (In n b)) ≡ false
    repeat-fresh (Answered f) a old = cc
    repeat-fresh b a old = old

    repeat-ends : (b : Body) → asks b ≡ true → is_new t n ≡ false → (k : ℕ) → ends_at k (next t (In n b)) ≡ false
    repeat-ends (Answered f) a old k = cc
    repeat-ends (Complete j f) a old k = ap (λ x. nat_lt k (commands t) && (x && (j == k) || false)) old ∙ and-false (nat_lt k (commands t))
    repeat-ends b a old k = ends-nothing t n b k refl

pub answer-new : (tb : Table) (t : Trace) (n : ℕ) (e : Event) → IsTable tb t → is_up t ≡ true → verdict_in tb.seen.ranges n ≡ None → verdict t e ≡ answer t n e
answer-new tb t n e is up none = ap (λ o. unwrap_or o (verdict t e)) (sym (sym (seen-up t n up) ∙ sym (is.had n) ∙ none))
