-- What is said is what is logged.
use Rattle.std.specs.Prelude.{◌<◌, ◌^◌, ◌≡◌, ℕ, true, false, [], List, ◌++◌, length, bytes_eq, Some, slice_get}
use Rattle.std.specs.List.{list_any, AllByRecursion}
use Rattle.bm_lines.specs.Names.{Name, stdio}
use Rattle.bm_session.specs.Events.{is_down_event}
use mathlib.Core.List.{IsPrefix}
use Rattle.bm_session.specs.Trace.{log, visible, productive}
use Rattle.bm_work.specs.declared.sent.Sent.{Sent}
use Rattle.bm_work.specs.Stream.{Report, sent, said}
use Rattle.bm_replay.specs.Resumed.{Happening, is_resumed_schedule, linked_after, at_first, acts_of, unanswered}
use Rattle.bm_replay.specs.Schedule.{Act, reported, scene_after, opening, is_schedule, is_over, was_started, requests_taken, Deliver, is_allowed, command_of}

-- in every schedule, for every capacity, the log of a command is a prefix of what the worker said
-- for it
abbrev pub SaidIsLogged : Type 0
SaidIsLogged =
    (c : ℕ) (acts : List Act) (k : ℕ)
    → is_schedule c acts ≡ true
    → IsPrefix (log (scene_after (opening c) acts).lane.trace k stdio) (said (reported acts) k)

-- where every request of the session in which it was started was taken, it is all of it, whatever
-- follows that session
abbrev pub AllSaidIsLogged : Type 0
AllSaidIsLogged =
    (c : ℕ) (acts more : List Act) (k : ℕ)
    → is_schedule c (acts ++ more) ≡ true
    → is_over (scene_after (opening c) acts) more ≡ true
    → was_started (scene_after (opening c) acts).lane.trace k ≡ true
    → requests_taken (scene_after (opening c) acts).lane.trace
    ≡ length (scene_after (opening c) acts).worker.reports
    → log (scene_after (opening c) (acts ++ more)).lane.trace k stdio
    ≡ said (reported (acts ++ more)) k

-- a log of another name has no line: the worker says nothing under it
abbrev pub OtherLogsAreEmpty : Type 0
OtherLogsAreEmpty =
    (c : ℕ) (acts : List Act) (k : ℕ) (name : Name)
    → is_schedule c acts ≡ true
    → bytes_eq stdio name ≡ false
    → log (scene_after (opening c) acts).lane.trace k name ≡ []

-- the numbers of the requests that may be delivered, and those of their commands, are below 2^63
abbrev pub NumbersAreSmall : Type 0
NumbersAreSmall =
    (c : ℕ) (acts : List Act) (n : ℕ) (r : Report)
    → is_schedule c acts ≡ true
    → is_allowed (scene_after (opening c) acts) (Deliver n) ≡ true
    → slice_get (scene_after (opening c) acts).worker.reports n ≡ Some r
    → (n < 2 ^ 63) × (command_of r < 2 ^ 63)

-- over connections that are cut and resumed too, the log of a command is a prefix of what the
-- worker said for it
abbrev pub ResumedIsLogged : Type 0
ResumedIsLogged =
    (c : ℕ) (ps : List Happening) (k : ℕ)
    → is_resumed_schedule c ps ≡ true
    → IsPrefix (log (linked_after (at_first c) ps).scene.lane.trace k stdio)
    (said (reported (acts_of ps)) k)

-- where the worker has no request unanswered, no session was given up and the lane is drained,
-- viewers see all of it
abbrev pub AllResumedIsLogged : Type 0
AllResumedIsLogged =
    (c : ℕ) (ps : List Happening) (k : ℕ)
    → is_resumed_schedule c ps ≡ true
    → unanswered (linked_after (at_first c) ps) ≡ []
    → list_any is_down_event (linked_after (at_first c) ps).scene.lane.trace ≡ false
    → (linked_after (at_first c) ps).scene.lane.shown
    ≡ productive (linked_after (at_first c) ps).scene.lane.trace
    → log (visible (linked_after (at_first c) ps).scene.lane.trace
    (linked_after (at_first c) ps).scene.lane.shown) k stdio
    ≡ said (reported (acts_of ps)) k

-- a request of one of these reports, with the number of its place
abbrev pub IsSentOf : List Report → Sent → Type 0
IsSentOf reports s = (r : Report) × (slice_get reports s.seq ≡ Some r) × (s ≡ sent s.seq r)

-- what is sent over a connection, first or again, are the worker's requests, each with its number
-- and its bytes
abbrev pub SentAreRequests : Type 0
SentAreRequests =
    (c : ℕ) (ps : List Happening)
    → is_resumed_schedule c ps ≡ true
    → AllByRecursion (IsSentOf (linked_after (at_first c) ps).scene.worker.reports)
    (linked_after (at_first c) ps).link.sent

-- its acts are a schedule, and what is reached is what that schedule reaches: so all that holds of
-- schedules holds here
abbrev pub ResumedIsSchedule : Type 0
ResumedIsSchedule =
    (c : ℕ) (ps : List Happening)
    → is_resumed_schedule c ps ≡ true
    → (is_schedule c (acts_of ps) ≡ true)
    × ((linked_after (at_first c) ps).scene ≡ scene_after (opening c) (acts_of ps))

-- a log of another name has no line
abbrev pub OtherResumedLogsAreEmpty : Type 0
OtherResumedLogsAreEmpty =
    (c : ℕ) (ps : List Happening) (k : ℕ) (name : Name)
    → is_resumed_schedule c ps ≡ true
    → bytes_eq stdio name ≡ false
    → log (linked_after (at_first c) ps).scene.lane.trace k name ≡ []
