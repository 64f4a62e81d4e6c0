-- A worker's session, and what its calls hand to the link that is up.
use Rattle.std.specs.Prelude.{◌≡◌, ◌⊎◌, ℕ, Bool, true, false, List, [], ◌∷◌, Option, Some, None, Result, Ok, Err}
use Rattle.std.specs.declared.alloc.AllocError.{AllocError}
use Rattle.bm_work.specs.Core.{Core, new_core, unanswered_requests}
use Rattle.bm_work.specs.declared.act.WorkAct.{WorkAct}
use Rattle.bm_work.specs.declared.sent.Sent.{Sent}
use Rattle.bm_outbox.specs.Telling.{TellsNext}
use Rattle.bm_outbox.specs.declared.outbox_entry.OutboxEntry.{OutboxEntry}
use Rattle.bm_outbox.specs.declared.progress.Progress.{Progress}
use Rattle.bm_outbox.specs.declared.progress.Progress.TheVariants as progress
use Rattle.bm_link.specs.Working.{LogsInWhere, PingsAt, SendsAt, WorkState, Worked}
use Rattle.bm_link.specs.declared.attaching.Attached.{Attached}
use Rattle.bm_link.specs.declared.attaching.Attached.TheVariants as attached
use Rattle.bm_link.specs.declared.fault.LinkFault.{LinkFault}
use Rattle.bm_link.specs.declared.fault.LinkFault.TheVariants.{Closed, Mem}
use Rattle.bm_link.specs.declared.turn.Turn.{Turn}
use Rattle.bm_worker_session.specs.declared.session_fault.SessionFault.{SessionFault}
use Rattle.bm_worker_session.specs.declared.session_fault.SessionFault.TheVariants as fault

-- the worker's core, what waits to be told, the requests that are still to be sent again, and the
-- link, if one is up
pub record SessionState (S : Type 0) : Type 0 where
  pub core : Core
  pub outbox : List OutboxEntry
  pub backlog : List Sent
  pub link : Option (WorkState S)

abbrev pub is_resumed : Attached → Bool
is_resumed attached.Resumed = true
is_resumed attached.Plain = false
is_resumed attached.New = false

-- the requests by which something was told
abbrev pub requests_of : Result Progress AllocError → List Sent
requests_of (Ok (progress.Text s)) = s ∷ []
requests_of (Ok (progress.End v)) = v.items
requests_of (Ok progress.Nothing) = []
requests_of (Ok progress.Full) = []
requests_of (Ok progress.Passed) = []
requests_of (Err e) = []

-- whether there was anything to be sent, where all of it was; or else the link failed
abbrev pub answer_of_sending : Bool → Result Bool SessionFault
answer_of_sending true = Ok true
answer_of_sending false = Err fault.Link

-- what is answered for telling, by whether all of its requests were sent
abbrev pub answer_of : Result Progress AllocError → Bool → Result Bool SessionFault
answer_of (Ok (progress.Text s)) sent = answer_of_sending sent
answer_of (Ok (progress.End v)) sent = answer_of_sending sent
answer_of (Ok progress.Nothing) sent = Ok false
answer_of (Ok progress.Full) sent = Ok false
answer_of (Ok progress.Passed) sent = Ok true
answer_of (Err e) sent = Err fault.Memory

module _ {S : Type 0} where
  abbrev pub new_session : SessionState S
  new_session = record { core = new_core; outbox = []; backlog = []; link = None }

  abbrev pub is_closed : Option (WorkState S) → Bool
  is_closed (Some link) = link.closed
  is_closed None = false

  -- The requests were handed to the link, each whole and in this order. Or the link failed at one
  -- of them, and nothing behind it was sent.
  abbrev pub HandsOver : (S → Option (List ℕ)) → List Sent → WorkState S → Bool → WorkState S
      → Type 0
  HandsOver contents [] old sent new = (sent ≡ true) × (new ≡ old)
  HandsOver contents (request ∷ rest) old sent new =
      ((mid : WorkState S) × SendsAt contents old.failed request.bytes old (Ok tt) mid
      × (mid.named ≡ old.named) × HandsOver contents rest mid sent new)
      ⊎ ((f : LinkFault) × SendsAt contents old.failed request.bytes old (Err f) new
      × (new.named ≡ old.named) × (sent ≡ false))

  -- all requests by which something was told were handed to the link, or it failed
  abbrev pub HandsOverProgress : (S → Option (List ℕ)) → Result Progress AllocError → WorkState S
      → Result Bool SessionFault → WorkState S → Type 0
  HandsOverProgress contents p old r new =
      (sent : Bool) × HandsOver contents (requests_of p) old sent new × (r ≡ answer_of p sent)

  -- What waits first is told. The core numbers and keeps its requests, and they are handed to the
  -- link at once, whatever becomes of them there.
  abbrev pub TellsOn : (S → Option (List ℕ)) → Core → List OutboxEntry → WorkState S
      → Result Bool SessionFault → Core → List OutboxEntry → WorkState S → Type 0
  TellsOn contents core outbox old r core2 outbox2 new =
      (p : Result Progress AllocError) × TellsNext outbox core p outbox2 core2
      × HandsOverProgress contents p old r new

  -- the oldest request of the backlog is sent again, as it was sent before
  abbrev pub SendsAgain : (S → Option (List ℕ)) → Sent → List Sent → WorkState S → SessionState S
      → Result Bool SessionFault → SessionState S → Type 0
  SendsAgain contents request rest link old r new =
      (link2 : WorkState S) × (sent : Bool) × HandsOver contents (request ∷ []) link sent link2
      × (r ≡ answer_of_sending sent)
      × (new ≡ record old { backlog = rest; link = Some link2 })

  -- Nothing new is told before all of the backlog was sent again. Without a link nothing is done.
  abbrev pub SendsNext : (S → Option (List ℕ)) → List Sent → Option (WorkState S) → SessionState S
      → Result Bool SessionFault → SessionState S → Type 0
  SendsNext contents (request ∷ rest) (Some link) old r new =
      SendsAgain contents request rest link old r new
  SendsNext contents [] (Some link) old r new =
      (link2 : WorkState S)
      × TellsOn contents old.core old.outbox link r new.core new.outbox link2
      × (new.backlog ≡ []) × (new.link ≡ Some link2)
  SendsNext contents backlog None old r new = (r ≡ Err fault.Link) × (new ≡ old)

  -- A resumed session goes on. All that has no answer is to be sent again, with its bytes and in
  -- its order, and what waits waits on. Another one begins anew, and wants no memory for that.
  abbrev pub BeginsBy : Bool → WorkState S → SessionState S → Result (Unit {0}) AllocError
      → SessionState S → Type 0
  BeginsBy true link old (Ok _) new =
      new ≡ record old { backlog = unanswered_requests old.core; link = Some link }
  BeginsBy false link old (Ok _) new = new ≡ record new_session { link = Some link }
  BeginsBy true link old (Err e) new = new ≡ old
  BeginsBy false link old (Err e) new = ⊥

  -- The login by a new link, and what comes of its answer, in one. Where an answer was read, the
  -- session stands by it: it begins, or is resumed. Behind a fault nothing has changed, and no
  -- answer was read, or it was that the session is resumed, for which memory was wanting.
  abbrev pub ConnectsBy : (S → Option (List ℕ)) → (S → Option (List ℕ)) → List ℕ → List ℕ
      → Option (List ℕ) → Option (List ℕ) → WorkState S → SessionState S
      → Result Attached LinkFault → SessionState S → Type 0
  ConnectsBy remaining contents name password session next link old (Ok a) new =
      (link2 : WorkState S)
      × LogsInWhere remaining contents name password session next link.failed link (Ok a) link2
      × BeginsBy (is_resumed a) link2 old (Ok tt) new
  ConnectsBy remaining contents name password session next link old (Err f) new =
      (link2 : WorkState S) × (new ≡ old)
      × (LogsInWhere remaining contents name password session next link.failed link (Err f) link2
      ⊎ ((f ≡ Mem)
      × LogsInWhere remaining contents name password session next link.failed link
      (Ok attached.Resumed) link2))

  -- a turn of the link: it changes the core and nothing of what waits
  abbrev pub HearsBy : (S → Option (List ℕ)) → (S → Option (List ℕ)) → Option (WorkState S)
      → SessionState S → Result (Turn × WorkAct) LinkFault → SessionState S → Type 0
  HearsBy remaining contents (Some link) old r new =
      (core : Core) × (link2 : WorkState S)
      × Worked remaining contents link.failed link old.core r link2 core
      × (link2.named ≡ link.named) × (new ≡ record old { core = core; link = Some link2 })
  HearsBy remaining contents None old r new = (r ≡ Err Closed) × (new ≡ old)

  -- a ping of the link
  abbrev pub PingsBy : (S → Option (List ℕ)) → Option (WorkState S) → SessionState S
      → Result (Unit {0}) LinkFault → SessionState S → Type 0
  PingsBy contents (Some link) old r new =
      (link2 : WorkState S) × PingsAt contents link.failed link r link2
      × (link2.named ≡ link.named) × (new ≡ record old { link = Some link2 })
  PingsBy contents None old r new = (r ≡ Err Closed) × (new ≡ old)
