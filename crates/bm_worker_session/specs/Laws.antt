-- What a link was handed, over a whole connection.
use Rattle.std.specs.Prelude.{◌≡◌, ◌≤◌, ℕ, Bool, true, false, List, [], ◌++◌, drop, Option, Some, Result, Ok}
use Rattle.bm_link.specs.Working.{WorkState}
use Rattle.bm_link.specs.declared.fault.LinkFault.{LinkFault}
use Rattle.bm_link.specs.declared.turn.Turn.{Turn}
use Rattle.bm_work.specs.Core.{Core, IsCore, next_number, unanswered_requests}
use Rattle.bm_work.specs.Stream.{stream}
use Rattle.bm_work.specs.declared.act.WorkAct.{WorkAct}
use Rattle.bm_work.specs.declared.sent.Sent.{Sent}
use Rattle.bm_outbox.specs.Telling.{TellsNext}
use Rattle.bm_outbox.specs.declared.outbox_entry.OutboxEntry.{OutboxEntry}
use Rattle.bm_outbox.specs.declared.progress.Progress.{Progress}
use Rattle.bm_worker_session.specs.Sessions.{BeginsBy, HandsOver, HearsBy, SendsNext, SessionState, requests_of}

-- What is told has no answer yet, whatever becomes of the link. It stands behind all that has
-- none, and so the next link is handed it again.
abbrev pub TellsKeep : Type 0
TellsKeep = (waiting waiting2 : List OutboxEntry) (c c2 : Core) (p : Progress) → IsCore c
    → TellsNext waiting c (Ok p) waiting2 c2
    → unanswered_requests c2 ≡ unanswered_requests c ++ requests_of (Ok p)

module _ {S : Type 0} where
  -- The link was handed these so far, and the backlog comes next. Together they are what had no
  -- answer when the link came to be, and then each request since, from this number on. None is
  -- missing, and none is out of order.
  pub record InStep (resumed : List Sent) (first : ℕ) (sent : List Sent) (w : SessionState S)
      : Type 0 where
    pub since : first ≤ next_number w.core
    pub in_order : sent ++ w.backlog ≡ resumed ++ drop first (stream w.core.reports)

  -- a link that goes on with a session begins in step: nothing was handed to it yet
  abbrev pub BeginsInStep : (S → Option (List ℕ)) → Type 0
  BeginsInStep contents = (link : WorkState S) (old new : SessionState S)
      → BeginsBy true link old (Ok tt) new
      → InStep (unanswered_requests old.core) (next_number old.core) [] new

  -- and so does one that begins a session anew
  abbrev pub BeginsAnewInStep : (S → Option (List ℕ)) → Type 0
  BeginsAnewInStep contents = (link : WorkState S) (old new : SessionState S)
      → BeginsBy false link old (Ok tt) new → InStep [] 0 [] new

  -- each call that sends without a fault keeps it in step: what is handed over comes next
  abbrev pub SendsInStep : (S → Option (List ℕ)) → Type 0
  SendsInStep contents = (resumed sent : List Sent) (first : ℕ) (link : WorkState S)
      → (old new : SessionState S) (some : Bool) → old.link ≡ Some link
      → SendsNext contents old.backlog old.link old (Ok some) new → InStep resumed first sent old
      → (handed : List Sent) × (link2 : WorkState S) × (new.link ≡ Some link2)
      × HandsOver contents handed link true link2 × InStep resumed first (sent ++ handed) new

  -- each turn of the link keeps it in step
  abbrev pub HearsInStep : (S → Option (List ℕ)) → (S → Option (List ℕ)) → Type 0
  HearsInStep remaining contents = (resumed sent : List Sent) (first : ℕ)
      → (old new : SessionState S) (r : Result (Turn × WorkAct) LinkFault)
      → HearsBy remaining contents old.link old r new → InStep resumed first sent old
      → InStep resumed first sent new
