-- The laws of a worker's commands.
use Rattle.std.proofs.Common.{◌≡◌, refl, sym, ap, ◌∙◌, subst, ℕ, ◌+◌, ◌≤◌, Bool, true, false, cond, List, [], ◌∷◌, map, Option, Some, None, arith}
use Rattle.std.proofs.lemmas.List.Sums.{sum_by-cons}
use Rattle.std.specs.Prelude.{◌==◌, ◌&&◌, nat_lt, max, slice_get, position}
use Rattle.std.proofs.lemmas.Bool.Decides.{nat_tests}
use Rattle.bm_outbox.specs.declared.command_end.CommandEnd.TheVariants as command_end
use Rattle.bm_commands.specs.declared.values.ProcessInput.TheVariants as told
use Rattle.bm_commands.specs.declared.values.Input.TheVariants as input
use Rattle.bm_commands.specs.declared.values.Effect.{Effect}
use Rattle.bm_commands.specs.declared.values.Effect.TheVariants as effect
use Rattle.bm_commands.specs.declared.values.CommandPhase.{CommandPhase}
use Rattle.bm_commands.specs.declared.values.CommandPhase.TheVariants as phase
use Rattle.bm_commands.specs.declared.values.CommandRow.{CommandRow}
use Rattle.bm_commands.specs.declared.values.ProcessInput.{ProcessInput}
use Rattle.bm_commands.specs.Rows.{cell, end_effect_in, interrupted_in, is_command, is_told, lost, phase_is_told}
use Rattle.bm_commands.specs.Queues.{QueuesView, changed, changed_to, fresh_queues, stepped}
use Rattle.bm_commands.specs.Laws.{EndsOnce, Event, InterruptedGiveNoCode, LostAreSilent, SilentBehindEnd, after, codes_in, effects, ends_in, moved, one_if, texts_in, told_in, total}
use Rattle.bm_commands.proofs.Counted.{IsFree, Weight, falls-cell, may, paid-moved, paid-run, shown-moved, weight, weigh, weigh-set}

-- whatever has a row may be told of
abbrev all : CommandPhase → ℕ
all p = 1

all-weight : Weight all
all-weight = record {
  small = omega arith;
  runs = λ b. omega arith;
  code = λ c why t. omega arith;
  held = λ c why t. omega arith;
  goes-on = λ why t u. omega arith;
  stopped = λ why v left t. omega arith;
  gone = λ b. omega arith;
  lost = λ b. omega arith;
  owed = λ b. omega arith;
}

-- the row of a process stays that of this process
pub process_after : (now : ℕ) (r : CommandRow) (i : ProcessInput) → (cell now r i).0.process ≡ r.process
process_after now r i = (falls-cell all all-weight now r i).0

ends-free : (p : ℕ) → IsFree (ends_in p)
ends-free p = record { nothing = refl; keep = refl; kill = λ k. refl; look = λ k. refl; forget = λ k. refl; sweep = refl }

texts-free : (p : ℕ) → IsFree (texts_in p)
texts-free p = record { nothing = refl; keep = refl; kill = λ k. refl; look = λ k. refl; forget = λ k. refl; sweep = refl }

codes-free : (p : ℕ) → IsFree (codes_in p)
codes-free p = record { nothing = refl; keep = refl; kill = λ k. refl; look = λ k. refl; forget = λ k. refl; sweep = refl }

told-free : (p : ℕ) → IsFree (told_in p)
told-free p = record { nothing = refl; keep = refl; kill = λ k. refl; look = λ k. refl; forget = λ k. refl; sweep = refl }

end-in : (p : ℕ) (q : CommandPhase) (r : CommandRow) → ends_in p (end_effect_in q r) ≤ cond (r.process == p) 1 0
end-in p (phase.Over end) r = omega arith
end-in p q r = omega arith

no-text-in : (p : ℕ) (q : CommandPhase) (r : CommandRow) → texts_in p (end_effect_in q r) ≡ 0
no-text-in p (phase.Over end) r = refl
no-text-in p q r = refl

one-or-none : (b : Bool) → cond b 1 0 ≤ 1
one-or-none true = omega arith
one-or-none false = omega arith

started-once : (p : ℕ) → cond (nat_lt 0 p) 1 0 ≤ 1
started-once p = one-or-none (nat_lt 0 p)

ends-run : (p : ℕ) (q : QueuesView) (es : List Event) → total (ends_in p) (effects q es) + may all all-weight p (after q es) ≤ may all all-weight p q
ends-run p q es = paid-run all all-weight p (ends_in p) (ends-free p) (λ k j. refl) (λ r. end-in p r.phase r) q es

pub ends_once : EndsOnce
ends_once es p = let run = ends-run p fresh_queues es in omega (arith, run, started-once p)

-- nothing is shown once nothing may be told
silent-run : (p : ℕ) (q : QueuesView) (es : List Event) → may all all-weight p q ≡ 0 → total (texts_in p) (effects q es) ≡ 0
silent-run p q [] h = refl
silent-run p q (e ∷ es) h =
    let one : texts_in p (moved q e).1 ≤ may all all-weight p q = shown-moved all all-weight p (texts_in p) (texts-free p) (λ r has. omega arith) (λ r. omega (arith, no-text-in p r.phase r)) q e in
    let left : ends_in p (moved q e).1 + may all all-weight p (moved q e).0 ≤ may all all-weight p q = paid-moved all all-weight p (ends_in p) (ends-free p) (λ k j. refl) (λ r. end-in p r.phase r) q e in
    let more : total (texts_in p) (effects (moved q e).0 es) ≡ 0 = silent-run p (moved q e).0 es (omega (arith, left, h)) in
    omega (arith, one, h, more)

pub silent_behind_end : SilentBehindEnd
silent_behind_end es more p h =
    silent-run p (after fresh_queues es) more (let run = ends-run p fresh_queues es in omega (arith, run, started-once p, h))

-- a command that ends by itself may give an exit code
abbrev coded : CommandPhase → ℕ
coded phase.Runs = 1
coded (phase.Over (command_end.Code c)) = 1
coded (phase.Over (command_end.Held c)) = 1
coded p = 0

coded-small : (b : CommandPhase) → coded b ≤ 1
coded-small phase.Runs = omega arith
coded-small (phase.Over (command_end.Code c)) = omega arith
coded-small (phase.Over (command_end.Held c)) = omega arith
coded-small p = omega arith

coded-weight : Weight coded
coded-weight = record {
  small = omega arith;
  runs = coded-small;
  code = λ c why t. omega arith;
  held = λ c why t. omega arith;
  goes-on = λ why t u. omega arith;
  stopped = λ why v left t. omega arith;
  gone = λ b. omega arith;
  lost = λ b. omega arith;
  owed = λ b. omega arith;
}

both-tests : (b c : Bool) → cond (b && c) 1 0 ≤ cond b (cond c 1 0) 0
both-tests true c = omega arith
both-tests false c = omega arith

code-in : (p : ℕ) (q : CommandPhase) (r : CommandRow) → codes_in p (end_effect_in q r) ≤ cond (r.process == p) (coded q) 0
code-in p (phase.Over (command_end.Code c)) r = both-tests (r.process == p) true
code-in p (phase.Over (command_end.Held c)) r = both-tests (r.process == p) true
code-in p (phase.Over (command_end.Stopped why left)) r = both-tests (r.process == p) false
code-in p q r = omega arith

codes-run : (p : ℕ) (q : QueuesView) (es : List Event) → total (codes_in p) (effects q es) + may coded coded-weight p (after q es) ≤ may coded coded-weight p q
codes-run p q es = paid-run coded coded-weight p (codes_in p) (codes-free p) (λ k j. refl) (λ r. code-in p r.phase r) q es

-- which process an effect kills
abbrev kills_in : ℕ → Effect → ℕ
kills_in p (effect.Kill k) = one_if (k == p)
kills_in p e = 0

takes-all : (b : Bool) → cond b 1 0 + cond b 0 0 ≤ cond b 1 0
takes-all true = omega arith
takes-all false = omega arith

-- an interrupt that kills takes the weight of its row
killing : (p : ℕ) (q : CommandPhase) (now : ℕ) (r : CommandRow) → r.phase ≡ q → kills_in p (interrupted_in q now r).1 + weight coded coded-weight p (interrupted_in q now r).0 ≤ weight coded coded-weight p r
killing p phase.Runs now r e = subst (λ x. cond (r.process == p) 1 0 + cond (r.process == p) 0 0 ≤ cond (r.process == p) (coded x) 0) (sym e) (takes-all (r.process == p))
killing p (phase.Over (command_end.Code c)) now r e = subst (λ x. cond (r.process == p) 1 0 + cond (r.process == p) 0 0 ≤ cond (r.process == p) (coded x) 0) (sym e) (takes-all (r.process == p))
killing p (phase.Over (command_end.Held c)) now r e = subst (λ x. cond (r.process == p) 1 0 + cond (r.process == p) 0 0 ≤ cond (r.process == p) (coded x) 0) (sym e) (takes-all (r.process == p))
killing p q now r e = omega arith

killing-to : (p now : ℕ) (rows : List CommandRow) (at : ℕ) (o : Option CommandRow) → slice_get rows at ≡ o → kills_in p (changed_to now told.Interrupted rows at o).1 + weigh coded coded-weight p (changed_to now told.Interrupted rows at o).0 ≤ weigh coded coded-weight p rows
killing-to p now rows at (Some r) e = omega (arith, weigh-set coded coded-weight p rows at r (interrupted_in r.phase now r).0 e, killing p r.phase now r refl)
killing-to p now rows at None e = omega arith

killing-at : (p now : ℕ) (rows : List CommandRow) (o : Option ℕ) → kills_in p (changed now told.Interrupted rows o).1 + weigh coded coded-weight p (changed now told.Interrupted rows o).0 ≤ weigh coded coded-weight p rows
killing-at p now rows (Some at) = killing-to p now rows at (slice_get rows at) refl
killing-at p now rows None = omega arith

same-number : (p : ℕ) → one_if (p == p) ≡ 1
same-number p = go (p == p) refl
  where
    go : (b : Bool) → (p == p) ≡ b → one_if b ≡ 1
    go true e = refl
    go false e = absurd (grind (arith, nat_tests))

pub interrupted_give_no_code : InterruptedGiveNoCode
interrupted_give_no_code es more k now p h =
    let before : total (codes_in p) (effects fresh_queues es) + may coded coded-weight p (after fresh_queues es) ≤ may coded coded-weight p fresh_queues = codes-run p fresh_queues es in
    let kill : kills_in p (stepped (after fresh_queues es) now (input.Interrupt k)).1 + weigh coded coded-weight p (stepped (after fresh_queues es) now (input.Interrupt k)).0.rows ≤ weigh coded coded-weight p (after fresh_queues es).rows = killing-at p (max (after fresh_queues es).now_ms now) (after fresh_queues es).rows (position (is_command k) (after fresh_queues es).rows) in
    let one : kills_in p (stepped (after fresh_queues es) now (input.Interrupt k)).1 ≡ 1 = ap (kills_in p) h ∙ same-number p in
    let then : total (codes_in p) (effects (stepped (after fresh_queues es) now (input.Interrupt k)).0 more) + may coded coded-weight p (after (stepped (after fresh_queues es) now (input.Interrupt k)).0 more) ≤ may coded coded-weight p (stepped (after fresh_queues es) now (input.Interrupt k)).0 = codes-run p (stepped (after fresh_queues es) now (input.Interrupt k)).0 more in
    omega (arith, before, kill, one, then, started-once p)

-- the master is told of a command
abbrev tellable : CommandPhase → ℕ
tellable p = cond (phase_is_told p) 1 0

told-weight : Weight tellable
told-weight = record {
  small = omega arith;
  runs = λ b. one-or-none (phase_is_told b);
  code = λ c why t. omega arith;
  held = λ c why t. omega arith;
  goes-on = λ why t u. omega arith;
  stopped = λ why v left t. omega arith;
  gone = λ b. omega arith;
  lost = λ b. omega arith;
  owed = λ b. omega arith;
}

told-in : (p : ℕ) (q : CommandPhase) (r : CommandRow) → told_in p (end_effect_in q r) ≤ cond (r.process == p) (tellable q) 0
told-in p (phase.Over end) r = omega arith
told-in p q r = omega arith

text-in : (b c x : Bool) → (b && c) ≡ true → cond x 1 0 ≤ cond x (cond b 1 0) 0
text-in true c x h = omega arith
text-in false c x h = absurd (grind arith)

ends-told-in : (p : ℕ) (q : CommandPhase) (r : CommandRow) → ends_in p (end_effect_in q r) ≤ cond (r.process == p) (tellable q) 0
ends-told-in p (phase.Over end) r = omega arith
ends-told-in p q r = omega arith

lost-run : (p : ℕ) (q : QueuesView) (es : List Event) → may tellable told-weight p q ≡ 0 → total (told_in p) (effects q es) ≡ 0
lost-run p q [] h = refl
lost-run p q (e ∷ es) h =
    let one : told_in p (moved q e).1 ≤ may tellable told-weight p q = shown-moved tellable told-weight p (told_in p) (told-free p) (λ r has. omega (arith, text-in (is_told r) (nat_lt 0 r.texts) (r.process == p) has)) (λ r. told-in p r.phase r) q e in
    let left : ends_in p (moved q e).1 + may tellable told-weight p (moved q e).0 ≤ may tellable told-weight p q = paid-moved tellable told-weight p (ends_in p) (ends-free p) (λ k j. refl) (λ r. ends-told-in p r.phase r) q e in
    let more : total (told_in p) (effects (moved q e).0 es) ≡ 0 = lost-run p (moved q e).0 es (omega (arith, left, h)) in
    omega (arith, one, h, more)

abbrev told-weighs : Bool → Bool → ℕ
told-weighs b t = cond b (cond t 1 0) 0

-- of a row that was lost nothing is told
lost-row : (p : ℕ) (r : CommandRow) → weight tellable told-weight p (lost r) ≡ 0
lost-row p r = go (is_told r) refl
  where
    none : (b : Bool) → ◌≡◌ {A = ℕ} (cond b 0 0) 0
    none true = refl
    none false = refl

    go : (b : Bool) → is_told r ≡ b → weight tellable told-weight p (cond b (record r { phase = phase.Lost }) r) ≡ 0
    go true e = none (r.process == p)
    go false e = ap (told-weighs (r.process == p)) e ∙ none (r.process == p)

lost-rows : (p : ℕ) (rows : List CommandRow) → weigh tellable told-weight p (map lost rows) ≡ 0
lost-rows p [] = refl
lost-rows p (r ∷ rs) = sum_by-cons (weight tellable told-weight p) (lost r) (map lost rs) ∙ omega (arith, lost-row p r, lost-rows p rs)

was-started : (s p : ℕ) → p ≤ s → ◌≡◌ {A = ℕ} (cond (nat_lt s p) 1 0) 0
was-started s p h = go (nat_lt s p) refl
  where
    go : (b : Bool) → nat_lt s p ≡ b → ◌≡◌ {A = ℕ} (cond b 1 0) 0
    go true e = absurd (grind (arith, nat_tests, h))
    go false e = refl

pub lost_are_silent : LostAreSilent
lost_are_silent es more now p h =
    lost-run p (stepped (after fresh_queues es) now input.SessionLost).0 more
    (omega (arith, lost-rows p (after fresh_queues es).rows, was-started (after fresh_queues es).started p h))
