-- A trace has fewer than a million events before a last loss, so the numbers of requests and
-- commands are small.
use Rattle.std.proofs.Common.{◌≡◌, refl, sym, ◌∙◌, ℕ, ◌+◌, ◌≤◌, ◌<◌, Bool, true, false, cond, ◌&&◌, [], ◌∷◌, ◌++◌, length, Option, Some, None, arith}
use Rattle.std.specs.Prelude.{nat_lt, nat_le, is_none}
use Rattle.std.proofs.lemmas.Bool.Decides.{nat_tests}
use Rattle.std.proofs.lemmas.List.{length_push}
use Rattle.bm_session.proofs.Snoc.{snoc_induction}
use Rattle.bm_session.proofs.Pushed.{next, commands-push}
use Rattle.bm_session.proofs.Taken.{and-left, and-right, was_taken-push, none-from}
use Rattle.bm_session.specs.declared.event.Event.{Event}
use Rattle.bm_session.specs.declared.event.Event.TheVariants.{Up, In, Go, Stop, Cut, Down}
use Rattle.bm_session.specs.declared.refusal.Refusal.{Refusal}
use Rattle.bm_session.specs.declared.refusal.Refusal.TheVariants.{Full}
use Rattle.bm_session.specs.Events.{is_go}
use Rattle.bm_session.specs.Trace.{Trace, begins_session, is_fresh, commands, was_taken, refusal, first_reason, reason_if, not_up, already_up, too_many_open, no_such_command, full}
use Rattle.bm_replay.specs.Schedule.{command_of, has_run, scene_after, opening, requests_taken}
use Rattle.bm_replay.specs.Laws.{NumbersAreSmall}
use Rattle.bm_replay.proofs.Sessions.{requests_taken-push, started-below}
use Rattle.bm_replay.proofs.Logged.{reached}

later-none : (first later : Option Refusal) → first_reason first later ≡ None → later ≡ None
later-none None later h = h
later-none (Some r) later h = cc

no-reason : (b : Bool) (r : Refusal) → reason_if b r ≡ None → b ≡ false
no-reason false r h = refl
no-reason true r h = cc

pub not-full : (t : Trace) (e : Event) → refusal t e ≡ None → full t e ≡ None
not-full t e h =
    later-none (no_such_command t e) (full t e)
    (later-none (too_many_open t e) (first_reason (no_such_command t e) (full t e))
    (later-none (already_up t e) (first_reason (too_many_open t e) (first_reason (no_such_command t e) (full t e)))
    (later-none (not_up t e) (first_reason (already_up t e) (first_reason (too_many_open t e) (first_reason (no_such_command t e) (full t e)))) h)))

pub room : (t : Trace) → reason_if (nat_le 999999 (length t)) Full ≡ None → length t < 999999
room t h = let test : nat_le 999999 (length t) ≡ false = no-reason (nat_le 999999 (length t)) Full h in grind (arith, nat_tests)

one : (b : Bool) → cond b 1 0 ≤ 1
one true = omega arith
one false = omega arith

fresh : (begins adds : Bool) (n len : ℕ) → n ≤ len → cond begins 0 (n + cond adds 1 0) ≤ len + 1
fresh true adds n len h = omega arith
fresh false adds n len h = let few : cond adds 1 0 ≤ 1 = one adds in omega arith

-- there are no more commands and requests than events
fewer : (t : Trace) → (commands t ≤ length t) × (requests_taken t ≤ length t)
fewer = snoc_induction (λ t. (commands t ≤ length t) × (requests_taken t ≤ length t)) (omega arith, omega arith) step
  where
    step : (t : Trace) (e : Event) → (commands t ≤ length t) × (requests_taken t ≤ length t) → (commands (t ++ e ∷ []) ≤ length (t ++ e ∷ [])) × (requests_taken (t ++ e ∷ []) ≤ length (t ++ e ∷ []))
    step t e ih =
        let size : length (t ++ e ∷ []) ≡ length t + 1 = length_push t e in
        let most : cond (is_go e) 1 0 ≤ 1 = one (is_go e) in
        let old : commands t ≤ length t = ih.0 in
        let requests : cond (begins_session (next t e)) 0 (requests_taken t + cond (is_fresh (next t e)) 1 0) ≤ length t + 1 = fresh (begins_session (next t e)) (is_fresh (next t e)) (requests_taken t) (length t) ih.1 in
        (omega (arith, commands-push t e), omega (arith, requests_taken-push t e))

abbrev pub IsSmall : Trace → Type 0
IsSmall t = (commands t ≤ 999999) × (requests_taken t ≤ 999999)

grown : (t : Trace) (e : Event) → length t < 999999 → IsSmall (t ++ e ∷ [])
grown t e h =
    let size : length (t ++ e ∷ []) ≡ length t + 1 = length_push t e in
    let c : commands (t ++ e ∷ []) ≤ length (t ++ e ∷ []) = (fewer (t ++ e ∷ [])).0 in
    let r : requests_taken (t ++ e ∷ []) ≤ length (t ++ e ∷ []) = (fewer (t ++ e ∷ [])).1 in
    (omega arith, omega arith)

small-next : (t : Trace) (e : Event) → refusal t e ≡ None → IsSmall t → IsSmall (t ++ e ∷ [])
small-next t Down h s =
    let c : commands t ≤ 999999 = s.0 in
    let r : requests_taken t ≤ 999999 = s.1 in
    (omega (arith, commands-push t Down), omega (arith, requests_taken-push t Down))
small-next t Up h s = grown t Up (room t (not-full t Up h))
small-next t Go h s = grown t Go (room t (not-full t Go h))
small-next t (Stop k) h s = grown t (Stop k) (room t (not-full t (Stop k) h))
small-next t Cut h s = grown t Cut (room t (not-full t Cut h))
small-next t (In n body) h s = grown t (In n body) (room t (not-full t (In n body) h))

pub small : (t : Trace) → was_taken t ≡ true → IsSmall t
small = snoc_induction (λ t. was_taken t ≡ true → IsSmall t) (λ h. (omega arith, omega arith)) step
  where
    step : (t : Trace) (e : Event) → (was_taken t ≡ true → IsSmall t) → was_taken (t ++ e ∷ []) ≡ true → IsSmall (t ++ e ∷ [])
    step t e ih h =
        let both : (was_taken t && is_none (refusal t e)) ≡ true = sym (was_taken-push t e) ∙ h in
        small-next t e (none-from (refusal t e) (and-right (was_taken t) (is_none (refusal t e)) both)) (ih (and-left (was_taken t) (is_none (refusal t e)) both))

pub numbers_are_small : NumbersAreSmall
numbers_are_small c acts n r ok may there =
    let s : IsSmall (scene_after (opening c) acts).lane.trace = small (scene_after (opening c) acts).lane.trace (reached c acts ok).taken in
    let test : nat_le n (requests_taken (scene_after (opening c) acts).lane.trace) ≡ true =
    and-right (nat_lt n (length (scene_after (opening c) acts).worker.reports)) (nat_le n (requests_taken (scene_after (opening c) acts).lane.trace)) may in
    let low : n ≤ requests_taken (scene_after (opening c) acts).lane.trace = grind (arith, nat_tests) in
    let most : requests_taken (scene_after (opening c) acts).lane.trace ≤ 999999 = s.1 in
    let ran : has_run (scene_after (opening c) acts).worker (command_of r) ≡ true = ((reached c acts ok).asked n r there).0 in
    let below : command_of r < commands (scene_after (opening c) acts).lane.trace =
    started-below (scene_after (opening c) acts).lane.trace (command_of r) ((reached c acts ok).started (command_of r) ran) in
    let commands_few : commands (scene_after (opening c) acts).lane.trace ≤ 999999 = s.0 in
    (omega arith, omega arith)
