-- A command that waits moves forward with each text of another one.
use Rattle.std.proofs.Common.{◌≡◌, refl, sym, ap, ◌∙◌, ℕ, ◌+◌, ◌≤◌, ◌<◌, Bool, true, false, cond, List, [], ◌∷◌, ◌++◌, map, get_or, zero, suc, Some, arith}
use Rattle.std.specs.Prelude.{◌==◌, ◌-◌, ◌&&◌, nat_lt, max, slice_get, slice_set, remove, position}
use Rattle.std.proofs.lemmas.Bool.Decides.{nat_tests}
use Rattle.std.proofs.lemmas.List.Quantifiers.{position-Some}
use Rattle.std.proofs.lemmas.Option.{get_or_from_slice_get}
use Rattle.bm_commands.specs.declared.values.ProcessInput.{ProcessInput}
use Rattle.bm_commands.specs.declared.values.Input.{Input}
use Rattle.bm_commands.specs.declared.values.Input.TheVariants as input
use Rattle.bm_commands.specs.declared.values.Effect.TheVariants as effect
use Rattle.bm_commands.specs.declared.values.CommandPhase.{CommandPhase}
use Rattle.bm_commands.specs.declared.values.CommandPhase.TheVariants as phase
use Rattle.bm_commands.specs.declared.values.CommandRow.{CommandRow}
use Rattle.bm_commands.specs.Rows.{cell, end_effect, end_effect_in, fresh_row, has_end, has_text, is_gone, killed, lost, phase_is_gone, phase_is_over, phase_is_told}
use Rattle.bm_commands.specs.Queues.{Acted, QueuesView}
use Rattle.bm_commands.specs.Laws.{Event, TurnsAreFair, WaitsOn, admits, any_text, effects, moved, one_if, place, steps, texts_in, total, waits}
use Rattle.bm_commands.proofs.Counted.{OnRows, both, quiet-cell, walk}
use Rattle.bm_commands.proofs.Lawful.{process_after}

-- the place behind a row that may be the process's own
abbrev behind : Bool → ℕ → ℕ
behind b n = cond b 0 (1 + n)

-- a changed row of the same process changes no place
place-set : (p : ℕ) (rows : List CommandRow) (at : ℕ) (r new : CommandRow) → slice_get rows at ≡ Some r → new.process ≡ r.process → place p (slice_set rows at new) ≡ place p rows
place-set p [] at r new e same = absurd (grind arith)
place-set p (x ∷ xs) zero r new e same =
    let is : x ≡ r = cc in
    let key : new.process ≡ x.process = same ∙ ap (λ y. y.process) (sym is) in
    ap (λ k. behind (k == p) (place p xs)) key
place-set p (x ∷ xs) (suc i) r new e same = ap (behind (x.process == p)) (place-set p xs i r new e same)

place-lost : (p : ℕ) (rows : List CommandRow) → place p (map lost rows) ≡ place p rows
place-lost p [] = refl
place-lost p (x ∷ xs) =
    ap (behind ((lost x).process == p)) (place-lost p xs) ∙ ap (λ k. behind (k == p) (place p xs)) (lost-process x)
  where
    lost-process : (r : CommandRow) → (lost r).process ≡ r.process
    lost-process r = both (λ (y : CommandRow). y.process ≡ r.process) (phase_is_told r.phase) _ _ refl refl

-- nor does one behind it
place-append : (p : ℕ) (rows : List CommandRow) (y : CommandRow) → waits p rows ≡ true → place p (rows ++ y ∷ []) ≡ place p rows
place-append p [] y h = absurd (grind arith)
place-append p (x ∷ xs) y h = go (x.process == p) refl (λ g. place-append p xs y g)
  where
    go : (b : Bool) → (x.process == p) ≡ b → (waits p xs ≡ true → place p (xs ++ y ∷ []) ≡ place p xs) → behind b (place p (xs ++ y ∷ [])) ≡ behind b (place p xs)
    go true e f = refl
    go false e f = ap (behind false) (f (ap (λ b. cond b (has_text x) (waits p xs)) (sym e) ∙ h))

-- a row that has no text goes
place-remove : (p : ℕ) (rows : List CommandRow) (at : ℕ) (r : CommandRow) → slice_get rows at ≡ Some r → has_text r ≡ false → waits p rows ≡ true → place p (remove rows at) ≤ place p rows
place-remove p [] at r e none h = absurd (grind arith)
place-remove p (x ∷ xs) zero r e none h = go (x.process == p) refl
  where
    go : (b : Bool) → (x.process == p) ≡ b → place p xs ≤ cond b 0 (1 + place p xs)
    go true k =
        let is : x ≡ r = cc in
        let has : has_text x ≡ true = ap (λ b. cond b (has_text x) (waits p xs)) (sym k) ∙ h in
        absurd (let no : true ≡ false = sym has ∙ ap has_text is ∙ none in grind arith)
    go false k = omega arith
place-remove p (x ∷ xs) (suc i) r e none h = go (x.process == p) refl (λ g. place-remove p xs i r e none g)
  where
    go : (b : Bool) → (x.process == p) ≡ b → (waits p xs ≡ true → place p (remove xs i) ≤ place p xs) → cond b 0 (1 + place p (remove xs i)) ≤ cond b 0 (1 + place p xs)
    go true k f = omega arith
    go false k f = let less : place p (remove xs i) ≤ place p xs = f (ap (λ b. cond b (has_text x) (waits p xs)) (sym k) ∙ h) in omega (arith, less)

-- the first that has a text goes behind all others
place-turn : (p : ℕ) (rows : List CommandRow) (at : ℕ) (r y : CommandRow) → slice_get rows at ≡ Some r → ((k : ℕ) → k < at → has_text (get_or rows k r) ≡ false) → (r.process == p) ≡ false → waits p rows ≡ true → 1 + place p (remove rows at ++ y ∷ []) ≤ place p rows
place-turn p [] at r y e none other h = absurd (grind arith)
place-turn p (x ∷ xs) zero r y e none other h =
    let is : x ≡ r = cc in
    let not-it : (x.process == p) ≡ false = ap (λ z. z.process == p) is ∙ other in
    let rest : waits p xs ≡ true = ap (λ b. cond b (has_text x) (waits p xs)) (sym not-it) ∙ h in
    let same : place p (xs ++ y ∷ []) ≡ place p xs = place-append p xs y rest in
    let all : place p (x ∷ xs) ≡ 1 + place p xs = ap (λ b. behind b (place p xs)) not-it in
    omega (arith, same, all)
place-turn p (x ∷ xs) (suc i) r y e none other h = go (x.process == p) refl (λ g. place-turn p xs i r y e (λ j lt. none (suc j) (omega (arith, lt))) other g)
  where
    go : (b : Bool) → (x.process == p) ≡ b → (waits p xs ≡ true → 1 + place p (remove xs i ++ y ∷ []) ≤ place p xs) → 1 + cond b 0 (1 + place p (remove xs i ++ y ∷ [])) ≤ cond b 0 (1 + place p xs)
    go true k f =
        let has : has_text x ≡ true = ap (λ b. cond b (has_text x) (waits p xs)) (sym k) ∙ h in
        absurd (let no : true ≡ false = sym has ∙ none 0 (omega arith) in grind arith)
    go false k f =
        let less : 1 + place p (remove xs i ++ y ∷ []) ≤ place p xs = f (ap (λ b. cond b (has_text x) (waits p xs)) (sym k) ∙ h) in
        omega (arith, less)

gone-no-text : (q : CommandPhase) (t : Bool) → phase_is_gone q ≡ true → (phase_is_told q && t) ≡ false
gone-no-text phase.Gone t h = refl
gone-no-text phase.Lost t h = refl
gone-no-text phase.Owed t h = refl
gone-no-text phase.Runs t h = absurd (grind arith)
gone-no-text (phase.Over end) t h = absurd (grind arith)
gone-no-text (phase.Stopping why ms) t h = absurd (grind arith)

ended-no-text : (b c : Bool) (n : ℕ) → (b && (n == 0)) ≡ true → (c && nat_lt 0 n) ≡ false
ended-no-text true c n h = go (nat_lt 0 n) refl
  where
    go : (d : Bool) → nat_lt 0 n ≡ d → (c && d) ≡ false
    go true k = absurd (grind (arith, nat_tests))
    go false k = none c
      where
        none : (a : Bool) → (a && false) ≡ false
        none true = refl
        none false = refl
ended-no-text false c n h = absurd (grind arith)

no-text : (q : CommandPhase) (r : CommandRow) → any_text (end_effect_in q r) ≡ 0
no-text (phase.Over end) r = refl
no-text q r = refl

module _ (p : ℕ) where
  abbrev Forward : List CommandRow → Acted → Type 0
  Forward rows a = waits p rows ≡ true → texts_in p a.1 ≡ 0 → any_text a.1 + place p a.0 ≤ place p rows

  at-first : (test : CommandRow → Bool) (rows : List CommandRow) (at : ℕ) (r : CommandRow) → slice_get rows at ≡ Some r → position test rows ≡ Some at → test r ≡ true
  at-first test rows at r e first = ap test (sym (get_or_from_slice_get rows at r r e)) ∙ (position-Some test rows at r first).1

  forward-cell : (now : ℕ) (i : ProcessInput) (rows : List CommandRow) (at : ℕ) (r : CommandRow) → slice_get rows at ≡ Some r → Forward rows (slice_set rows at (cell now r i).0, (cell now r i).1)
  forward-cell now i rows at r e h g =
      let quiet : any_text (cell now r i).1 ≡ 0 = quiet-cell (λ f. any_text f ≡ 0) refl refl (λ k. refl) now r i in
      omega (arith, quiet, place-set p rows at r (cell now r i).0 e (process_after now r i))

  forward-kill : (now : ℕ) (rows : List CommandRow) (at : ℕ) (r : CommandRow) → slice_get rows at ≡ Some r → Forward rows (slice_set rows at (killed now r), effect.Kill r.process)
  forward-kill now rows at r e h g = omega (arith, place-set p rows at r (killed now r) e refl)

  forward-forget : (rows : List CommandRow) (at : ℕ) (r : CommandRow) → slice_get rows at ≡ Some r → position is_gone rows ≡ Some at → Forward rows (remove rows at, effect.Forget r.process)
  forward-forget rows at r e first h g = omega (arith, place-remove p rows at r e (gone-no-text r.phase (nat_lt 0 r.texts) (at-first is_gone rows at r e first)) h)

  forward-end : (rows : List CommandRow) (at : ℕ) (r : CommandRow) → slice_get rows at ≡ Some r → position has_end rows ≡ Some at → Forward rows (remove rows at, end_effect r)
  forward-end rows at r e first h g = omega (arith, no-text r.phase r, place-remove p rows at r e (ended-no-text (phase_is_over r.phase) (phase_is_told r.phase) r.texts (at-first has_end rows at r e first)) h)

  is-other : (b : Bool) → one_if b ≡ 0 → b ≡ false
  is-other true h = absurd (omega (arith, h))
  is-other false h = refl

  forward-text : (rows : List CommandRow) (at : ℕ) (r : CommandRow) → slice_get rows at ≡ Some r → position has_text rows ≡ Some at → Forward rows (remove rows at ++ record r { texts = r.texts - 1 } ∷ [], effect.TellText r.process r.pipes.command)
  forward-text rows at r e first h g = place-turn p rows at r (record r { texts = r.texts - 1 }) e (λ k lt. (position-Some has_text rows at r first).2 k lt) (is-other (r.process == p) g) h

  forward-walk : (q : QueuesView) (now : ℕ) (i : Input) → OnRows Forward q now i
  forward-walk = walk Forward (λ rows h g. omega arith) (λ rows k h g. omega arith) forward-cell forward-kill forward-forget forward-end forward-text

  forward-moved : (q : QueuesView) (e : Event) → waits p q.rows ≡ true → texts_in p (moved q e).1 ≡ 0 → any_text (moved q e).1 + place p (moved q e).0.rows ≤ place p q.rows
  forward-moved q (admits k now) h g = omega (arith, place-append p q.rows (fresh_row (q.started + 1) k (max q.now_ms now)) h)
  forward-moved q (steps now (input.Process k i)) h g = forward-walk q now (input.Process k i) h g
  forward-moved q (steps now (input.Interrupt k)) h g = forward-walk q now (input.Interrupt k) h g
  forward-moved q (steps now input.SessionLost) h g = omega (arith, place-lost p q.rows)
  forward-moved q (steps now input.Ends) h g =
      let none : any_text (cond q.is_ending effect.Nothing effect.SweepAll) ≡ 0 = both (λ x. any_text x ≡ 0) q.is_ending _ _ refl refl in
      omega (arith, none)
  forward-moved q (steps now input.Tick) h g = forward-walk q now input.Tick h g
  forward-moved q (steps now (input.Turn may_say)) h g = forward-walk q now (input.Turn may_say) h g

  fair-run : (q : QueuesView) (es : List Event) → WaitsOn p q es → total any_text (effects q es) ≤ place p q.rows
  fair-run q [] w = omega arith
  fair-run q (e ∷ es) w =
      let one : any_text (moved q e).1 + place p (moved q e).0.rows ≤ place p q.rows = forward-moved q e w.0 w.1 in
      let more : total any_text (effects (moved q e).0 es) ≤ place p (moved q e).0.rows = fair-run (moved q e).0 es w.2 in
      omega (arith, one, more)

pub turns_are_fair : TurnsAreFair
turns_are_fair q es p w = fair-run p q es w
