-- What no later session changes: so a session's log is whole once all its requests were taken.
use Rattle.std.proofs.Common.{◌≡◌, refl, sym, ◌∙◌, ap, subst, ℕ, ◌+◌, ◌<◌, Bool, true, false, cond, not, ◌||◌, ◌&&◌, List, [], ◌∷◌, ◌++◌, Option, Some, None, arith}
use Rattle.std.specs.Prelude.{◌==◌, is_none}
use Rattle.std.proofs.lemmas.Bool.{eqb-true}
use Rattle.std.proofs.lemmas.Bool.Decides.{nat_tests}
use Rattle.std.proofs.lemmas.List.{append-nil}
use Rattle.std.proofs.lemmas.List.Concat.{flat_map-append}
use Rattle.std.proofs.lemmas.List.Sums.{fold-append}
use Rattle.bm_lines.specs.Lines.{Line}
use Rattle.bm_lines.specs.Names.{stdio}
use Rattle.bm_lines.specs.LineBatches.{blocks_under}
use Rattle.bm_session.proofs.Snoc.{and-false}
use Rattle.bm_session.proofs.Pushed.{next, commands-push, log-push}
use Rattle.bm_session.proofs.Taken.{and-left, and-right, none-from}
use Rattle.bm_session.specs.declared.event.Event.{Event}
use Rattle.bm_session.specs.declared.event.Event.TheVariants.{Up}
use Rattle.bm_session.specs.declared.refusal.Refusal.{Refusal}
use Rattle.bm_session.specs.Events.{is_go, is_update_of, batch_of}
use Rattle.bm_session.specs.Trace.{Trace, begins_session, commands, is_fresh, is_cut, is_open, was_taken, joined, log, refusal}
use Rattle.bm_work.specs.declared.sent.Finish.TheVariants.{Rc, Fault}
use Rattle.bm_work.specs.Stream.{text, said}
use Rattle.bm_world.specs.declared.step.Step.{Step}
use Rattle.bm_world.specs.declared.step.Step.TheVariants.{Hear, Drain, Look}
use Rattle.bm_world.specs.World.{World, heard}
use Rattle.bm_replay.specs.Schedule.{Act, Run, Say, Finish, Deliver, Respond, Make, reported_by, reported, Scene, opening, is_allowed, after, step_of, lane_after, scene_after, is_schedule_from, is_schedule, is_over, was_started}
use Rattle.bm_replay.specs.Laws.{AllSaidIsLogged}
use Rattle.bm_replay.proofs.Sessions.{was_started-push, started-below, open-is-here}
use Rattle.bm_replay.proofs.Agreement.{Agree, said-append, log-whole, lines-other}
use Rattle.bm_replay.proofs.Acts.{hear-cases, drain-keeps, runs-on, keeps}
use Rattle.bm_replay.proofs.Logged.{reached}

-- a command of an earlier session, and its log
record IsSettled (t : Trace) (k : ℕ) (ls : List Line) : Type 0 where
  older : was_started t k ≡ false
  there : k < commands t
  same : log t k stdio ≡ ls

-- a command that isn't open gets no lines
closed-stays : (t : Trace) (e : Event) (k : ℕ) → is_open t k ≡ false → log (t ++ e ∷ []) k stdio ≡ log t k stdio
closed-stays t e k h =
    log-push t e k stdio
    ∙ ap (λ b. log t k stdio ++ joined (cond (is_fresh (next t e) && is_update_of k e && b) (blocks_under stdio (batch_of e)) [])) h
    ∙ ap (λ b. log t k stdio ++ joined (cond b (blocks_under stdio (batch_of e)) [])) (and-false (is_fresh (next t e) && is_update_of k e))
    ∙ append-nil (log t k stdio)

settled-push : (t : Trace) (e : Event) (k : ℕ) (ls : List Line) → was_taken t ≡ true → IsSettled t k ls → IsSettled (t ++ e ∷ []) k ls
settled-push t e k ls h s = record {
  older = was_started-push t e k ∙ older (begins_session (next t e)) (is_go e);
  there = let l : k < commands t = s.there in omega (arith, more);
  same = closed-stays t e k (closed (is_open t k) refl) ∙ s.same;
}
  where
    more : commands (t ++ e ∷ []) ≡ commands t + cond (is_go e) 1 0
    more = commands-push t e

    closed : (b : Bool) → is_open t k ≡ b → b ≡ false
    closed false x = refl
    closed true x = let yes : was_started t k ≡ true = open-is-here t h k x in let no : was_started t k ≡ false = s.older in cc

    differs : (commands t == k) ≡ false
    differs = let l : k < commands t = s.there in grind (arith, nat_tests)

    older : (b g : Bool) → cond b false (was_started t k || (g && (commands t == k))) ≡ false
    older true g = refl
    older false g = rw (s.older, differs) (and-false g)

-- an act leaves the trace, or an event is taken
trace-cases : (w : World) (o : Option Step) (P : Trace → Type 0) → P w.trace → ((e : Event) → P (w.trace ++ e ∷ [])) → P (lane_after w o).trace
trace-cases w None P old grown = old
trace-cases w (Some (Hear e)) P old grown = hear-cases w e P old (λ h. grown e)
trace-cases w (Some Drain) P old grown = drain-keeps w P old
trace-cases w (Some (Look k name off lim)) P old grown = old

-- nothing is said of it
unsaid : (f : ℕ → List Line) (s : Scene) (a : Act) (k : ℕ) (ls : List Line) → is_allowed s a ≡ true → Agree f s.lane.trace s.worker → IsSettled s.lane.trace k ls → said (reported_by a) k ≡ []
unsaid f s (Say j letter t) k ls ok h i = lines-other k (text j letter t) (differs (j == k) refl)
  where
    differs : (b : Bool) → (j == k) ≡ b → b ≡ false
    differs false e = refl
    differs true e =
        let yes : was_started s.lane.trace j ≡ true = h.started j (runs-on s.worker j ok).0 in
        let here : was_started s.lane.trace k ≡ true = subst (λ i. was_started s.lane.trace i ≡ true) (eqb-true j k e) yes in
        let no : was_started s.lane.trace k ≡ false = i.older in cc
unsaid f s (Finish j (Rc z)) k ls ok h i = refl
unsaid f s (Finish j (Fault fault)) k ls ok h i = refl
unsaid f s (Run j) k ls ok h i = refl
unsaid f s (Deliver n) k ls ok h i = refl
unsaid f s (Respond n fault) k ls ok h i = refl
unsaid f s (Make a) k ls ok h i = refl

settled : (acts : List Act) (f : ℕ → List Line) (s : Scene) (k : ℕ) (ls : List Line) → is_schedule_from s acts ≡ true → Agree f s.lane.trace s.worker → IsSettled s.lane.trace k ls
    → (log (scene_after s acts).lane.trace k stdio ≡ ls) × (said (reported acts) k ≡ [])
settled [] f s k ls ok h i = (i.same, refl)
settled (a ∷ acts) f s k ls ok h i =
    let first : is_allowed s a ≡ true = and-left (is_allowed s a) (is_schedule_from (after s a) acts) ok in
    let later : IsSettled (after s a).lane.trace k ls = trace-cases s.lane (step_of s a) (λ t. IsSettled t k ls) i (λ e. settled-push s.lane.trace e k ls h.taken i) in
    let rest : (log (scene_after (after s a) acts).lane.trace k stdio ≡ ls) × (said (reported acts) k ≡ []) =
    settled acts (λ j. f j ++ said (reported_by a) j) (after s a) k ls (and-right (is_allowed s a) (is_schedule_from (after s a) acts) ok) (keeps f s a first h) later in
    (rest.0, said-append (reported_by a) (reported acts) k ∙ ap (λ l. l ++ said (reported acts) k) (unsaid f s a k ls first h i) ∙ rest.1)

split : (s : Scene) (acts more : List Act) → is_schedule_from s (acts ++ more) ≡ true → (is_schedule_from s acts ≡ true) × (is_schedule_from (scene_after s acts) more ≡ true)
split s [] more h = (refl, h)
split s (a ∷ acts) more h =
    let rest : (is_schedule_from (after s a) acts ≡ true) × (is_schedule_from (scene_after (after s a) acts) more ≡ true) =
    split (after s a) acts more (and-right (is_allowed s a) (is_schedule_from (after s a) (acts ++ more)) h) in
    (ap (λ b. b && is_schedule_from (after s a) acts) (and-left (is_allowed s a) (is_schedule_from (after s a) (acts ++ more)) h) ∙ rest.0, rest.1)

-- what follows a session's end adds nothing
later : (f : ℕ → List Line) (s : Scene) (more : List Act) (k : ℕ) → Agree f s.lane.trace s.worker → is_schedule_from s more ≡ true → is_over s more ≡ true → was_started s.lane.trace k ≡ true
    → (log (scene_after s more).lane.trace k stdio ≡ log s.lane.trace k stdio) × (said (reported more) k ≡ [])
later f s [] k h ok over st = (refl, refl)
later f s (Make (Hear Up) ∷ more) k h ok over st =
    settled more (λ j. f j ++ []) (after s (Make (Hear Up))) k (log s.lane.trace k stdio) ok (keeps f s (Make (Hear Up)) refl h)
    (up (refusal s.lane.trace Up) (none-from (refusal s.lane.trace Up) (and-left (is_none (refusal s.lane.trace Up)) (not (is_cut s.lane.trace)) over)))
  where
    begun : IsSettled (s.lane.trace ++ Up ∷ []) k (log s.lane.trace k stdio)
    begun = record {
      older = was_started-push s.lane.trace Up k ∙ ap (λ b. cond b false (was_started s.lane.trace k || false)) (and-right (is_none (refusal s.lane.trace Up)) (not (is_cut s.lane.trace)) over);
      there = let l : k < commands s.lane.trace = started-below s.lane.trace k st in let m : commands (s.lane.trace ++ Up ∷ []) ≡ commands s.lane.trace + 0 = commands-push s.lane.trace Up in omega arith;
      same = log-push s.lane.trace Up k stdio ∙ append-nil (log s.lane.trace k stdio);
    }

    up : (o : Option Refusal) → o ≡ None → IsSettled (heard s.lane Up o).1.trace k (log s.lane.trace k stdio)
    up None e = begun
    up (Some r) e = cc
later f s (a ∷ more) k h ok over st = cc

-- the law
pub all_said_is_logged : AllSaidIsLogged
all_said_is_logged c acts more k ok over st all =
    let parts : (is_schedule c acts ≡ true) × (is_schedule_from (scene_after (opening c) acts) more ≡ true) = split (opening c) acts more ok in
    let h : Agree (said (reported acts)) (scene_after (opening c) acts).lane.trace (scene_after (opening c) acts).worker = reached c acts parts.0 in
    let rest : (log (scene_after (scene_after (opening c) acts) more).lane.trace k stdio ≡ log (scene_after (opening c) acts).lane.trace k stdio) × (said (reported more) k ≡ []) =
    later (said (reported acts)) (scene_after (opening c) acts) more k h parts.1 over st in
    let first : log (scene_after (opening c) acts).lane.trace k stdio ≡ said (reported acts) k =
    log-whole (said (reported acts)) (scene_after (opening c) acts).lane.trace (scene_after (opening c) acts).worker h k st all in
    ap (λ (s : Scene). log s.lane.trace k stdio) (fold-append after (opening c) acts more) ∙ rest.0 ∙ first
    ∙ sym (ap (λ rs. said rs k) (flat_map-append reported_by acts more) ∙ said-append (reported acts) (reported more) k ∙ ap (λ l. said (reported acts) k ++ l) rest.1 ∙ append-nil (said (reported acts) k))
