-- The law from socket to socket, of a lane and its worker. To believe it, read this file alone.
use Rattle.std.specs.Prelude.{◌≡◌, ◌⊎◌, ◌<◌, ◌≤◌, ◌^◌, ℕ, ◌+◌, Bool, true, false, if◌then◌else◌, List, [], ◌∷◌, ◌++◌, length, take, drop, map, Option, Some, None, Result}
use Rattle.std.specs.declared.alloc.AllocError.{AllocError}
use Rattle.std.specs.List.{AllByRecursion}
use Rattle.std.specs.Option.{option_to_list}
use Rattle.std.specs.Str.{IsUtf8}
use mathlib.Core.List.{IsPrefix, Forall₂}
use Rattle.websocket.specs.Connection.{Sends}
use Rattle.websocket.specs.declared.protocol.config.Role.{Role}
use Rattle.websocket.specs.declared.protocol.config.Role.TheVariants.{Server, Client}
use Rattle.websocket.specs.declared.protocol.frame.coding.Data.TheVariants.{Binary}
use Rattle.websocket.specs.declared.protocol.frame.coding.OpCode.TheVariants.{Data}
use Rattle.bm_value.specs.Num.{IsNum}
use Rattle.bm_lane.specs.Ends.{Heard}
use Rattle.bm_lane.specs.Hearing.{with_event}
use Rattle.bm_lines.specs.Names.{stdio}
use Rattle.bm_link.specs.Asks.{ask_bytes, texts_of}
use Rattle.bm_link.specs.Attaching.{cleared, taken_up}
use Rattle.bm_link.specs.Carries.{Carried, carried_after, carried_with, has_asked, new_carried, with_order}
use Rattle.bm_link.specs.Incoming.{IsEventOf}
use Rattle.bm_link.specs.Orders.{start_bytes, interrupt_bytes}
use Rattle.bm_link.specs.Received.{AreSaid, hearing_of}
use Rattle.bm_link.specs.Texts.{AreShort}
use Rattle.bm_link.specs.declared.asks.Ask.{Ask}
use Rattle.bm_msg.specs.Trees.{answer_bytes}
use Rattle.bm_msg.specs.declared.incoming.Incoming.{Incoming}
use Rattle.bm_outbox.specs.OutboxEntries.{reports_in, Tells}
use Rattle.bm_outbox.specs.declared.outbox_entry.OutboxEntry.{OutboxEntry}
use Rattle.bm_outbox.specs.declared.progress.Progress.{Progress}
use Rattle.bm_replay.specs.Schedule.{was_started}
use Rattle.bm_session.specs.Texts.{exception_text}
use Rattle.bm_session.specs.Trace.{commands, is_cut, joined, log, orders, refusal, reply, visible}
use Rattle.bm_session.specs.declared.event.Event.{Event}
use Rattle.bm_session.specs.declared.event.Event.TheVariants.{Up, Go, Stop, Cut, Down}
use Rattle.bm_session.specs.declared.reply.Reply.{Reply}
use Rattle.bm_session.specs.declared.reply.Reply.TheVariants.{Answer}
use Rattle.bm_work.specs.Core.{Core, new_core, unanswered_requests}
use Rattle.bm_work.specs.Stream.{Report, text, code, over, said}
use Rattle.bm_work.specs.declared.sent.Sent.{Sent}
use Rattle.bm_worker_session.specs.Sessions.{requests_of}

-- no link; or a login's answer is on its way; or it was heard, and so much is still sent again
pub data Link : Type 0 where
  Apart : Link
  Greeted : (resumed : Bool) → Link
  Stands : (backlog : List Sent) → Link

-- The lane's end, how many of its items viewers see, and what its link carries. The worker's core
-- and link. Whether what is written comes to be under way, and whether the core is that of the
-- lane's session. What was ever reported. The bytes under way to the lane, and to the worker.
pub record Service : Type 0 where
  pub lane : Heard
  pub shown : ℕ
  pub carried : Carried
  pub core : Core
  pub link : Link
  pub whole : Bool
  pub heard : Bool
  pub told : List Report
  pub up : List ℕ
  pub down : List ℕ

-- no worker was there yet
abbrev pub opening : ℕ → ℕ → Bool → Service
opening id capacity resumable = record {
  lane = record { lane = id; capacity = capacity; trace = []; put = [] };
  shown = 0;
  carried = new_carried resumable;
  core = new_core;
  link = Apart;
  whole = false;
  heard = false;
  told = [];
  up = [];
  down = [];
}

-- one frame of a binary message, a client's under any mask
abbrev pub IsFrameOf : Role → List ℕ → List ℕ → Type 0
IsFrameOf role message frame = (length message < 2 ^ 63)
    × Sends role (Some (record { opcode = Data Binary; payload = message })) [] frame

-- x, and then messages are written each way, unless the connection is cut
abbrev pub Writes : Service → List (List ℕ) → List (List ℕ) → Service → Type 0
Writes x to_lane to_worker y = (up : List (List ℕ)) × (down : List (List ℕ))
    × Forall₂ (IsFrameOf Client) (if x.whole then to_lane else []) up
    × Forall₂ (IsFrameOf Server) (if x.whole then to_worker else []) down
    × (y ≡ record x { up = x.up ++ joined up; down = x.down ++ joined down })

abbrev pub Orders : Service → Event → List ℕ → Service → Type 0
Orders x e bytes y = let order : Sent = record { seq = orders x.lane.trace; bytes = bytes } in
    (refusal x.lane.trace e ≡ None)
    × Writes (record x { lane = with_event x.lane e; carried = with_order x.carried order }) []
    (bytes ∷ []) y

abbrev pub answers_to_send : Reply → List (List ℕ)
answers_to_send (Answer n v) = answer_bytes n (exception_text v) ∷ []
answers_to_send _ = []

-- so the types of what waits at the worker have it
abbrev pub IsSayable : Report → Type 0
IsSayable (text k letter t) = IsUtf8 t × (length t ≤ 65536)
IsSayable (code k z) = IsNum z
IsSayable (over k None) = Unit {0}
IsSayable (over k (Some fault)) = IsUtf8 fault × (length fault ≤ 65536)

-- A step leads from x to y. A call that fails on the way is one that succeeds, and then a break.
pub data Step (x y : Service) : Type 0 where
  Start : (argv : List (List ℕ)) → AreShort argv → AllByRecursion IsUtf8 argv
      → Orders x Go (start_bytes (orders x.lane.trace) (commands x.lane.trace) argv) y → Step x y
  Interrupt : (k : ℕ) → Orders x (Stop k) (interrupt_bytes (orders x.lane.trace) k) y → Step x y
  Inquire : (a : Ask) → AreShort (texts_of a) → AllByRecursion IsUtf8 (texts_of a)
      → x.carried.next_ask < 2 ^ 63 → Writes (record x { carried = has_asked x.carried }) []
      (ask_bytes x.carried.next_ask a ∷ []) y → Step x y
  -- a turn of either link takes the frame at the front
  Turn : (m frame rest : List ℕ) (e : Event) → IsFrameOf Client m frame → x.up ≡ frame ++ rest
      → IsEventOf m e → refusal x.lane.trace e ≡ None
      → (let carry = carried_after x.carried e in
      Writes (record x { lane = with_event x.lane e; carried = carry; up = rest }) []
      (answers_to_send (reply x.lane.trace e)) y) → Step x y
  Listen : (m frame rest : List ℕ) (a : Incoming) (backlog : List Sent) → x.link ≡ Stands backlog
      → IsFrameOf Server m frame → x.down ≡ frame ++ rest → AreSaid m a
      → Writes (record x { core = (hearing_of x.core a).core; down = rest })
      (option_to_list (hearing_of x.core a).reply) [] y → Step x y
  -- of anything that may wait at the worker, the first is told
  Tell : (entry : OutboxEntry) (p : Result Progress AllocError) (core : Core)
      → AllByRecursion IsSayable (reports_in entry) → x.link ≡ Stands [] → Tells entry x.core p core
      → (let told = x.told ++ drop (length x.core.reports) core.reports in
      Writes (record x { core = core; told = told })
      (map (λ (s : Sent). s.bytes) (requests_of p)) [] y) → Step x y
  Resend : (s : Sent) (rest : List Sent) → x.link ≡ Stands (s ∷ rest)
      → Writes (record x { link = Stands rest }) (s.bytes ∷ []) [] y → Step x y
  -- an item is shown; or a viewer looks, or the lane refuses or is busy, which changes nothing
  Drain : x.shown < length x.lane.put → y ≡ record x { shown = x.shown + 1 } → Step x y
  Stay : y ≡ x → Step x y
  -- so many bytes are left; or the worker's link ends; or the lane's does, or it gives up
  Break : (i j : ℕ) → y ≡ record x { whole = false; up = take i x.up; down = take j x.down }
      → Step x y
  Leave : y ≡ record x { link = Apart; whole = false; down = [] } → Step x y
  Lose : (e : Event) → (e ≡ Cut) ⊎ (e ≡ Down) → refusal x.lane.trace e ≡ None
      → y ≡ record x { lane = with_event x.lane e; whole = false; up = [] } → Step x y
  -- A login takes the lane up. A resumed session is that of the worker's core, or this is still new
  -- (`unheard_sessions_end`). The worker hears of it, and goes on or begins anew.
  Meet : (resumed : Bool) (named : Option (List ℕ)) → x.link ≡ Apart
      → refusal (cleared resumed x.lane).trace Up ≡ None
      → (resumed ≡ true → (is_cut x.lane.trace ≡ true) × ((x.heard ≡ true) ⊎ (x.core ≡ new_core)))
      → (let carry = carried_with resumed x.carried named in
      let z = record x { lane = taken_up resumed x.lane; carried = carry; heard = resumed } in
      Writes (record z { link = Greeted resumed; whole = true; up = []; down = [] }) []
      (map (λ (s : Sent). s.bytes) carry.orders) y) → Step x y
  Resume : x.link ≡ Greeted true
      → y ≡ record x { link = Stands (unanswered_requests x.core) } → Step x y
  Begin : x.link ≡ Greeted false
      → y ≡ record x { core = new_core; link = Stands []; heard = true } → Step x y

pub data Goes : Service → Service → Type 0 where
  Ends : {x : Service} → Goes x x
  Then : {x y z : Service} → Step x y → Goes y z → Goes x z

-- each log is a prefix of what was reported of its command
abbrev pub ServiceIsLogged : Type 0
ServiceIsLogged = (id capacity : ℕ) (resumable : Bool) (y : Service) (k : ℕ)
    → Goes (opening id capacity resumable) y → IsPrefix (log y.lane.trace k stdio) (said y.told k)

-- Viewers see all of it, of a command of the lane's session, under three premises. That is the
-- session of the worker's core, nothing is unanswered, and all is shown.
abbrev pub AllOfServiceIsSeen : Type 0
AllOfServiceIsSeen = (id capacity : ℕ) (resumable : Bool) (y : Service) (k : ℕ)
    → Goes (opening id capacity resumable) y → y.heard ≡ true → was_started y.lane.trace k ≡ true
    → unanswered_requests y.core ≡ [] → y.shown ≡ length y.lane.put
    → log (visible y.lane.trace y.shown) k stdio ≡ said y.told k
