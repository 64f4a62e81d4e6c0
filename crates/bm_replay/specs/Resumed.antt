-- Resumed schedules: schedules over connections that are cut and resumed, with what is in flight on
-- them.
--
-- Two things they take for granted of the world. The worker's core is never restarted inside a
-- session: each connection that resumes meets the core that the last one had. And no session is
-- resumed of whose `new` the worker didn't hear. So its core is new from the Up of the session on
-- that it resumes. A worker that names a fresh next session in each login but its first has that by
-- `bm_link`'s `unheard_sessions_end`. For another one it says that no cut drops the answer `new` to
-- the `auth` that follows a giving up. What an old core says until it hears `new` counts as said
-- before that Up. A session that nobody heard of is an Up and a Down without requests between.
use Rattle.std.specs.Prelude.{ℕ, ◌+◌, Bool, true, false, ◌==◌, not, ◌&&◌, nat_lt, List, [], ◌∷◌, ◌++◌, length, take, Option, Some, None, if◌then◌else◌, option_map, unwrap_or, slice_get, fold, filter_map}
use Rattle.std.specs.List.{list_any}
use Rattle.bm_session.specs.declared.event.Event.TheVariants.{Up}
use Rattle.bm_session.specs.Trace.{is_cut}
use Rattle.bm_work.specs.declared.sent.Sent.{Sent}
use Rattle.bm_work.specs.Stream.{stream, stream_from, without_answer}
use Rattle.bm_world.specs.declared.step.Step.TheVariants.{Hear}
use Rattle.bm_replay.specs.Schedule.{Act, Say, Finish, Deliver, Make, reported_by, Scene, opening, is_allowed, after}

-- The requests that the worker sent over this connection, in order, and how many of them the lane
-- took. And the numbers of those requests of the session whose answers reached the worker.
pub record Link : Type 0 where
  pub sent : List Sent
  pub arrived : ℕ
  pub answered : List ℕ

abbrev pub new_link : Link
new_link = record { sent = []; arrived = 0; answered = [] }

-- a scene, and the connection that it has or had last
pub record Linked : Type 0 where
  pub scene : Scene
  pub link : Link

-- an act, or the answer to the worker's request n reaches the worker
pub data Happening : Type 0 where
  Do : (a : Act) → Happening
  Learn : (n : ℕ) → Happening

-- the requests that the worker has no answer to, oldest first
abbrev pub unanswered : Linked → List Sent
unanswered x = without_answer x.link.answered (stream x.scene.worker.reports)

-- What may happen

-- the next request of those that were sent over this connection has the number n
abbrev pub is_next : Link → ℕ → Bool
is_next link n =
    unwrap_or (option_map (λ (s : Sent). s.seq == n) (slice_get link.sent link.arrived)) false

abbrev pub is_possible : Linked → Happening → Bool
-- a connection keeps the order
is_possible x (Do (Deliver n)) = is_next x.link n
is_possible x (Do a) = is_allowed x.scene a
-- only what the lane took over this connection is answered over it. A cut may lose answers. One
-- that lies in the worker's socket already is learned after the cut too, and none once another
-- connection began.
is_possible x (Learn n) = list_any (λ (s : Sent). s.seq == n) (take x.link.arrived x.link.sent)

-- What follows

-- the lane takes the event of this act
abbrev pub is_taken : Scene → Act → Bool
is_taken s a = nat_lt (length s.lane.trace) (length (after s a).lane.trace)

abbrev pub with_sent : List Sent → Link → Link
with_sent requests link =
    record { sent = link.sent ++ requests; arrived = link.arrived; answered = link.answered }

-- the requests of this act, with the next numbers
abbrev pub requests_by : Scene → Act → List Sent
requests_by s a = stream_from (length s.worker.reports) (reported_by a)

abbrev pub link_after : Linked → Happening → Link
-- new requests are sent behind those before them
link_after x (Do (Say k letter t)) = with_sent (requests_by x.scene (Say k letter t)) x.link
link_after x (Do (Finish k ending)) = with_sent (requests_by x.scene (Finish k ending)) x.link
link_after x (Do (Deliver n)) =
    if is_taken x.scene (Deliver n)
    then record { sent = x.link.sent; arrived = x.link.arrived + 1; answered = x.link.answered }
    else x.link
-- a connection that resumes begins with the unanswered requests; one of a new session with nothing
link_after x (Do (Make (Hear Up))) =
    if not (is_taken x.scene (Make (Hear Up))) then x.link
    else if is_cut x.scene.lane.trace
    then record { sent = unanswered x; arrived = 0; answered = x.link.answered }
    else new_link
link_after x (Do a) = x.link
link_after x (Learn n) =
    record { sent = x.link.sent; arrived = x.link.arrived; answered = x.link.answered ++ n ∷ [] }

abbrev pub scene_then : Scene → Happening → Scene
scene_then s (Do a) = after s a
scene_then s (Learn n) = s

abbrev pub after_one : Linked → Happening → Linked
after_one x p = record { scene = scene_then x.scene p; link = link_after x p }

abbrev pub linked_after : Linked → List Happening → Linked
linked_after x ps = fold after_one x ps

-- Resumed schedules

-- each may happen where it comes
abbrev pub is_resumed_from : Linked → List Happening → Bool
is_resumed_from x [] = true
is_resumed_from x (p ∷ ps) = is_possible x p && is_resumed_from (after_one x p) ps

abbrev pub at_first : ℕ → Linked
at_first c = record { scene = opening c; link = new_link }

abbrev pub is_resumed_schedule : ℕ → List Happening → Bool
is_resumed_schedule c ps = is_resumed_from (at_first c) ps

-- its acts
abbrev pub act_of : Happening → Option Act
act_of (Do a) = Some a
act_of (Learn n) = None

abbrev pub acts_of : List Happening → List Act
acts_of ps = filter_map act_of ps
