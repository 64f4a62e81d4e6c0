-- A log is a prefix of what was said.
use Rattle.std.proofs.Common.{◌≡◌, sym, ◌∙◌, ap, ℕ, true, List, [], ◌∷◌, ◌++◌, append_assoc}
use Rattle.std.proofs.lemmas.List.{append-nil}
use Rattle.bm_lines.specs.Lines.{Line}
use Rattle.bm_session.proofs.Taken.{and-left, and-right}
use Rattle.bm_work.specs.Stream.{said}
use Rattle.bm_replay.specs.Schedule.{Act, reported_by, reported, Scene, opening, is_allowed, after, scene_after, is_schedule_from, is_schedule}
use Rattle.bm_replay.specs.Laws.{SaidIsLogged}
use Rattle.bm_replay.proofs.Agreement.{Agree, agrees-same, said-append, log-prefix}
use Rattle.bm_replay.proofs.Starts.{agree-at-first}
use Rattle.bm_replay.proofs.Acts.{keeps}

pub kept : (acts : List Act) (f : ℕ → List Line) (s : Scene) → is_schedule_from s acts ≡ true → Agree f s.lane.trace s.worker
    → Agree (λ k. f k ++ said (reported acts) k) (scene_after s acts).lane.trace (scene_after s acts).worker
kept [] f s ok h = agrees-same f (λ k. f k ++ []) s.lane.trace s.worker (λ k. sym (append-nil (f k))) h
kept (a ∷ acts) f s ok h =
    let first : Agree (λ k. f k ++ said (reported_by a) k) (after s a).lane.trace (after s a).worker = keeps f s a (and-left _ _ ok) h in
    agrees-same (λ k. (f k ++ said (reported_by a) k) ++ said (reported acts) k) (λ k. f k ++ said (reported (a ∷ acts)) k) _ _
    (λ k. append_assoc (f k) (said (reported_by a) k) (said (reported acts) k) ∙ ap (λ l. f k ++ l) (sym (said-append (reported_by a) (reported acts) k)))
    (kept acts (λ k. f k ++ said (reported_by a) k) (after s a) (and-right (is_allowed s a) _ ok) first)

-- after any schedule
pub reached : (c : ℕ) (acts : List Act) → is_schedule c acts ≡ true
    → Agree (said (reported acts)) (scene_after (opening c) acts).lane.trace (scene_after (opening c) acts).worker
reached c acts ok = kept acts (λ k. []) (opening c) ok agree-at-first

-- the law
pub said_is_logged : SaidIsLogged
said_is_logged c acts k ok =
    log-prefix (said (reported acts)) (scene_after (opening c) acts).lane.trace (scene_after (opening c) acts).worker (reached c acts ok) k
