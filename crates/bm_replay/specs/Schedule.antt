-- Schedules: the connections of a worker, one after the other, as a list of what the worker does
-- and its lane meets.
use Rattle.std.specs.Prelude.{ℕ, Bool, true, false, ◌==◌, not, ◌&&◌, nat_lt, nat_le, List, [], ◌∷◌, ◌++◌, length, Option, Some, None, if◌then◌else◌, flat_map, count_by, option_map, is_none, slice_get, fold}
use Rattle.std.specs.List.{list_any}
use Rattle.bm_lines.specs.declared.letter.Letter.{Letter}
use Rattle.bm_msg.specs.Meaning.{request}
use Rattle.bm_session.specs.declared.event.Event.{Event}
use Rattle.bm_session.specs.declared.event.Event.TheVariants.{Up, In}
use Rattle.bm_session.specs.declared.event.Body.TheVariants.{Answered}
use Rattle.bm_session.specs.Heard.{event_of}
use Rattle.bm_session.specs.Trace.{Trace, moments, session, starts, refuses, was_order, is_fresh, is_cut, refusal}
use Rattle.bm_work.specs.declared.sent.Finish.{Finish as Ending}
use Rattle.bm_work.specs.Stream.{Report, text, code, over, asked_by}
use Rattle.bm_work.specs.Reports.{reports_of}
use Rattle.bm_world.specs.declared.step.Step.{Step}
use Rattle.bm_world.specs.declared.step.Step.TheVariants.{Hear}
use Rattle.bm_world.specs.World.{World, stepped, start}

-- The worker

-- the commands that the worker ran in this session, and what it reported of them: its requests are
-- the stream of the reports
pub record Worker : Type 0 where
  pub ran : List ℕ
  pub reports : List Report

-- a worker that is new, or lost its session
abbrev pub new_worker : Worker
new_worker = record { ran = []; reports = [] }

abbrev pub has_run : Worker → ℕ → Bool
has_run w k = list_any (λ j. j == k) w.ran

-- the command that a report is of
abbrev pub command_of : Report → ℕ
command_of (text k letter t) = k
command_of (code k z) = k
command_of (over k fault) = k

-- the end of command k
abbrev pub is_end_of : ℕ → Report → Bool
is_end_of k (over j fault) = j == k
is_end_of k _ = false

abbrev pub have_ended : List Report → ℕ → Bool
have_ended reports k = list_any (is_end_of k) reports

abbrev pub is_running : Worker → ℕ → Bool
is_running w k = has_run w k && not (have_ended w.reports k)

abbrev pub with_run : ℕ → Worker → Worker
with_run k w = record { ran = w.ran ++ k ∷ []; reports = w.reports }

abbrev pub with_reports : List Report → Worker → Worker
with_reports reports w = record { ran = w.ran; reports = w.reports ++ reports }

-- request n of the worker, as its lane hears it
abbrev pub as_heard : ℕ → Report → Event
as_heard n r = event_of (request n (asked_by r))

-- What happens

pub data Act : Type 0 where
  -- the worker runs command k, says a text of it, or ends it
  Run : (k : ℕ) → Act
  Say : (k : ℕ) (letter : Letter) (text : List ℕ) → Act
  Finish : (k : ℕ) (ending : Ending) → Act
  -- its request n reaches the lane, for the first time or again
  Deliver : (n : ℕ) → Act
  -- its response to order n reaches the lane
  Respond : (n : ℕ) (fault : Bool) → Act
  -- the lane makes a step that no message of the worker causes
  Make : (s : Step) → Act

-- what the worker reports by an act
abbrev pub reported_by : Act → List Report
reported_by (Say k letter t) = text k letter t ∷ []
reported_by (Finish k ending) = reports_of k ending
reported_by _ = []

-- what it reports by all acts, over all its connections
abbrev pub reported : List Act → List Report
reported acts = flat_map reported_by acts

-- the lane, and the worker's side of its session
pub record Scene : Type 0 where
  pub lane : World
  pub worker : Worker

-- a lane whose queue takes c items, and a new worker
abbrev pub opening : ℕ → Scene
opening c = record { lane = start c; worker = new_worker }

-- What may happen

-- command k was started in this session
abbrev pub was_started : Trace → ℕ → Bool
was_started t k = list_any (starts k) (session t)

-- the worker refused the start of command k
abbrev pub was_refused : Trace → ℕ → Bool
was_refused t k = list_any (λ m. refuses m.past k m.event) (moments t)

-- how many requests of this session were taken
abbrev pub requests_taken : Trace → ℕ
requests_taken t = count_by is_fresh (session t)

-- no message of the worker
abbrev pub is_own_step : Step → Bool
is_own_step (Hear (In n body)) = false
is_own_step _ = true

abbrev pub is_allowed : Scene → Act → Bool
-- once, in the session in which its start was taken, and where the worker didn't refuse it
is_allowed s (Run k) =
    was_started s.lane.trace k && not (was_refused s.lane.trace k) && not (has_run s.worker k)
is_allowed s (Say k letter t) = is_running s.worker k
is_allowed s (Finish k ending) = is_running s.worker k
-- the next request that wasn't taken yet, or one that was: none is passed over
is_allowed s (Deliver n) =
    nat_lt n (length s.worker.reports) && nat_le n (requests_taken s.lane.trace)
-- no refusal of the start of a command that the worker ran
is_allowed s (Respond n true) = not (list_any (λ k. was_order s.lane.trace k n) s.worker.ran)
is_allowed s (Respond n false) = true
-- starts, stops, connections, losses, drains and looks, at any time
is_allowed s (Make step) = is_own_step step

-- What follows

-- the step of the lane
abbrev pub step_of : Scene → Act → Option Step
step_of s (Deliver n) = option_map (λ r. Hear (as_heard n r)) (slice_get s.worker.reports n)
step_of s (Respond n fault) = Some (Hear (In n (Answered fault)))
step_of s (Make step) = Some step
step_of s _ = None

abbrev pub lane_after : World → Option Step → World
lane_after w None = w
lane_after w (Some step) = (stepped w step).1

-- an Up that is taken here begins a session: it resumes none
abbrev pub is_new_session : Trace → Bool
is_new_session t = is_none (refusal t Up) && not (is_cut t)

-- A new session begins with a worker that is new, or lost the old one. Its core is never restarted
-- inside a session, and it hears that the session is new. What an old core says until it hears so
-- counts as said before this Up.
abbrev pub worker_after : Scene → Act → Worker
worker_after s (Run k) = with_run k s.worker
worker_after s (Say k letter t) = with_reports (reported_by (Say k letter t)) s.worker
worker_after s (Finish k ending) = with_reports (reported_by (Finish k ending)) s.worker
worker_after s (Make (Hear Up)) = if is_new_session s.lane.trace then new_worker else s.worker
worker_after s _ = s.worker

abbrev pub after : Scene → Act → Scene
after s a = record { lane = lane_after s.lane (step_of s a); worker = worker_after s a }

abbrev pub scene_after : Scene → List Act → Scene
scene_after s acts = fold after s acts

-- Schedules

-- each act may happen where it comes
abbrev pub is_schedule_from : Scene → List Act → Bool
is_schedule_from s [] = true
is_schedule_from s (a ∷ acts) = is_allowed s a && is_schedule_from (after s a) acts

abbrev pub is_schedule : ℕ → List Act → Bool
is_schedule c acts = is_schedule_from (opening c) acts

-- the session is over: no act follows, or the next one begins another session
abbrev pub is_over : Scene → List Act → Bool
is_over s [] = true
is_over s (Make (Hear Up) ∷ acts) = is_new_session s.lane.trace
is_over s _ = false
