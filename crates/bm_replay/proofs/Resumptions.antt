-- A resumed schedule is a schedule, and what it leaves unanswered is what was not taken.
use Rattle.std.proofs.Common.{◌≡◌, refl, sym, ◌∙◌, ap, subst, ℕ, ◌+◌, ◌-◌, ◌≤◌, ◌<◌, true, false, ◌&&◌, List, [], ◌∷◌, ◌++◌, length, arith, inl, inr}
use Rattle.std.specs.Prelude.{◌⊎◌}
use Rattle.std.specs.List.{list_any}
use Rattle.std.proofs.lemmas.Bool.{cases_lt}
use Rattle.bm_lines.specs.Lines.{Line}
use Rattle.bm_lines.specs.Names.{stdio}
use Rattle.bm_session.proofs.Taken.{and-left, and-right, not-started}
use Rattle.bm_session.proofs.Visible.{drained_logs_are_whole}
use Rattle.bm_session.specs.Events.{is_down_event}
use Rattle.bm_session.specs.Trace.{commands, joined, log, visible}
use Rattle.bm_work.specs.Core.{numbers}
use Rattle.bm_work.specs.Stream.{said}
use Rattle.bm_replay.specs.Schedule.{reported_by, reported, Scene, is_allowed, after, scene_after, is_schedule_from, requests_taken}
use Rattle.bm_replay.specs.Resumed.{Linked, Happening, Do, Learn, unanswered, is_possible, after_one, linked_after, is_resumed_from, is_resumed_schedule, at_first, acts_of}
use Rattle.bm_replay.specs.Laws.{ResumedIsLogged, AllResumedIsLogged, SentAreRequests, ResumedIsSchedule, OtherResumedLogsAreEmpty}
use Rattle.bm_replay.proofs.Agreement.{Agree, log-prefix, log-whole}
use Rattle.bm_replay.proofs.Starts.{agree-at-first}
use Rattle.bm_replay.proofs.Acts.{keeps}
use Rattle.bm_replay.proofs.Logged.{reached}
use Rattle.bm_replay.proofs.Links.{Passage, IsInOrder, open_numbers, resume, resumes}
use Rattle.bm_replay.proofs.StreamNumbers.{numbers-unanswered}
use Rattle.bm_replay.proofs.Connections.{LinkOf, AgreeOf, linked-at-first, allowed, linked, passage}
use Rattle.bm_replay.proofs.OtherNames.{other_logs_are_empty}
use Rattle.bm_replay.proofs.OneSession.{one-session}

-- what is reached is reached by a schedule

record IsReached (x : Linked) (ps : List Happening) : Type 0 where
  scheduled : is_schedule_from x.scene (acts_of ps) ≡ true
  same : (linked_after x ps).scene ≡ scene_after x.scene (acts_of ps)
  link : LinkOf (linked_after x ps)

reaches : (ps : List Happening) (f : ℕ → List Line) (x : Linked) → is_resumed_from x ps ≡ true → AgreeOf f x → LinkOf x → IsReached x ps
reaches [] f x ok h s = record { scheduled = refl; same = refl; link = s }
reaches (Do a ∷ ps) f x ok h s =
    let one : is_possible x (Do a) ≡ true = and-left (is_possible x (Do a)) (is_resumed_from (after_one x (Do a)) ps) ok in
    let may : is_allowed x.scene a ≡ true = allowed x a one s in
    let rest : IsReached (after_one x (Do a)) ps =
    reaches ps (λ k. f k ++ said (reported_by a) k) (after_one x (Do a)) (and-right (is_possible x (Do a)) (is_resumed_from (after_one x (Do a)) ps) ok) (keeps f x.scene a may h) (linked f x (Do a) one h s) in
    record {
      scheduled = ap (λ b. b && is_schedule_from (after x.scene a) (acts_of ps)) may ∙ rest.scheduled;
      same = rest.same;
      link = rest.link;
    }
reaches (Learn n ∷ ps) f x ok h s =
    let one : is_possible x (Learn n) ≡ true = and-left (is_possible x (Learn n)) (is_resumed_from (after_one x (Learn n)) ps) ok in
    let rest : IsReached (after_one x (Learn n)) ps =
    reaches ps f (after_one x (Learn n)) (and-right (is_possible x (Learn n)) (is_resumed_from (after_one x (Learn n)) ps) ok) h (linked f x (Learn n) one h s) in
    record { scheduled = rest.scheduled; same = rest.same; link = rest.link }

reached-resumed : (c : ℕ) (ps : List Happening) → is_resumed_schedule c ps ≡ true → IsReached (at_first c) ps
reached-resumed c ps ok = reaches ps (λ k. []) (at_first c) ok agree-at-first linked-at-first

agree-resumed : (c : ℕ) (ps : List Happening) → is_resumed_schedule c ps ≡ true → AgreeOf (said (reported (acts_of ps))) (linked_after (at_first c) ps)
agree-resumed c ps ok =
    let r : IsReached (at_first c) ps = reached-resumed c ps ok in
    subst (λ (s : Scene). Agree (said (reported (acts_of ps))) s.lane.trace s.worker) (sym r.same) (reached c (acts_of ps) r.scheduled)

-- the laws

pub resumed_is_schedule : ResumedIsSchedule
resumed_is_schedule c ps ok = ((reached-resumed c ps ok).scheduled, (reached-resumed c ps ok).same)

pub other_resumed_logs_are_empty : OtherResumedLogsAreEmpty
other_resumed_logs_are_empty c ps k name ok h =
    let r : IsReached (at_first c) ps = reached-resumed c ps ok in
    ap (λ (s : Scene). log s.lane.trace k name) r.same ∙ other_logs_are_empty c (acts_of ps) k name r.scheduled h

pub resumed_is_logged : ResumedIsLogged
resumed_is_logged c ps k ok =
    log-prefix (said (reported (acts_of ps))) (linked_after (at_first c) ps).scene.lane.trace (linked_after (at_first c) ps).scene.worker (agree-resumed c ps ok) k

pub sent_are_requests : SentAreRequests
sent_are_requests c ps ok = (reached-resumed c ps ok).link.sent_of

-- with nothing unanswered all was taken
all-taken : (h len : ℕ) (l : Passage) → IsInOrder h len l → open_numbers l.answered len ≡ [] → h ≡ len
all-taken h len l s none =
    let inside : h ≤ len = s.inside in
    let r : IsInOrder h len (resume l.answered len) = resumes l.answered h s.known (len - h) len (omega arith) in
    let size : length (open_numbers l.answered len) + h ≡ r.turn + len = r.size in
    let empty : length (open_numbers l.answered len) ≡ 0 = ap length none in
    omega arith

pub all_resumed_is_logged : AllResumedIsLogged
all_resumed_is_logged c ps k ok none kept drained =
    ap (λ d. log (visible (linked_after (at_first c) ps).scene.lane.trace d) k stdio) drained
    ∙ drained_logs_are_whole (linked_after (at_first c) ps).scene.lane.trace k stdio
    ∙ go (linked_after (at_first c) ps) (agree-resumed c ps ok) (reached-resumed c ps ok).link none kept
  where
    go : (x : Linked) → AgreeOf (said (reported (acts_of ps))) x → LinkOf x → unanswered x ≡ [] → list_any is_down_event x.scene.lane.trace ≡ false → log x.scene.lane.trace k stdio ≡ said (reported (acts_of ps)) k
    go x h s none kept = started (cases_lt k (commands x.scene.lane.trace))
      where
        empty : open_numbers x.link.answered (length x.scene.worker.reports) ≡ []
        empty = sym (numbers-unanswered x.link.answered x.scene.worker.reports) ∙ ap numbers none

        started : (k < commands x.scene.lane.trace) ⊎ (commands x.scene.lane.trace ≤ k) → log x.scene.lane.trace k stdio ≡ said (reported (acts_of ps)) k
        started (inl l) =
            log-whole (said (reported (acts_of ps))) x.scene.lane.trace x.scene.worker h k ((one-session x.scene.lane.trace h.taken kept).all k l)
            (all-taken (requests_taken x.scene.lane.trace) (length x.scene.worker.reports) (passage x.link) s.in_order empty)
        started (inr l) = ap joined ((not-started x.scene.lane.trace k l).no_blocks stdio) ∙ sym (h.unsaid k l)
