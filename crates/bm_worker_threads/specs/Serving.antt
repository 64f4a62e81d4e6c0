-- What serving a connection does to a worker's session, to what waits to be told, and to its tries.
use Rattle.std.specs.Prelude.{◌≡◌, ◌≢◌, ◌⊎◌, ℕ, Bool, true, false, ◌==◌, if◌then◌else◌, List, [], ◌∷◌, Option, None, Result, Ok, Err}
use Rattle.std.specs.Option.{is_some}
use Rattle.bm_work.specs.declared.act.WorkAct.{WorkAct}
use Rattle.bm_work.specs.declared.act.WorkAct.TheVariants as act
use Rattle.bm_link.specs.Working.{WorkState}
use Rattle.bm_link.specs.declared.attaching.Attached.{Attached}
use Rattle.bm_link.specs.declared.fault.LinkFault.{LinkFault}
use Rattle.bm_link.specs.declared.fault.LinkFault.TheVariants as link_fault
use Rattle.bm_link.specs.declared.turn.Turn.{Turn}
use Rattle.bm_link.specs.declared.turn.Turn.TheVariants as turn
use Rattle.bm_outbox.specs.Opening.{Starts}
use Rattle.bm_outbox.specs.Tries.{TriesState}
use Rattle.bm_outbox.specs.declared.outbox_entry.OutboxEntry.{OutboxEntry}
use Rattle.bm_outbox.specs.declared.keepalive.Keepalive.{Keepalive}
use Rattle.bm_outbox.specs.declared.keepalive.Keepalive.TheVariants as keep
use Rattle.bm_worker_session.specs.Sessions.{ConnectsBy, HearsBy, PingsBy, SendsNext, SessionState, is_closed}
use Rattle.bm_worker_session.specs.declared.session_fault.SessionFault.{SessionFault}
use Rattle.bm_worker_session.specs.declared.session_fault.SessionFault.TheVariants as fault
use Rattle.bm_worker_threads.specs.Connections.{is_message}
use Rattle.bm_worker_threads.specs.SessionTexts.{NamedTexts, after_answer, wants_next}
use Rattle.bm_worker_threads.specs.declared.connection.ConnectionEnd.{ConnectionEnd}
use Rattle.bm_worker_threads.specs.declared.connection.ConnectionEnd.TheVariants as end
use Rattle.bm_worker_threads.specs.declared.mailbox.WorkerMail.{WorkerMail}
use Rattle.bm_worker_threads.specs.declared.mailbox.WorkerMail.TheVariants as mail

-- a message begins the count of tries afresh
abbrev pub after_turn : Turn → TriesState → TriesState
after_turn t tries = if is_message t then record tries { made = 0 } else tries

-- how a connection ends whose link failed: a master that closed it has ended the worker's work
abbrev pub end_of_link : Bool → ConnectionEnd
end_of_link true = end.Closed
end_of_link false = end.Lost

-- how it ends where nothing more could be sent
abbrev pub after_sending : Result Bool SessionFault → Result Bool ConnectionEnd
after_sending (Ok some) = Ok some
after_sending (Err fault.Link) = Err end.Lost
after_sending (Err fault.Memory) = Err end.NoMemory

-- no try was made
abbrev pub no_tries : TriesState
no_tries = record {
  made = 0;
  begun_ms = 0;
  next_pause_ms = 10;
  is_known = false;
  answered_ms = None;
}

-- What is done by an act that was heard. A command is begun in what waits to be told, once. By all
-- others nothing is told. At an end that the master asks for the connection ends so, and else only
-- where memory is wanting.
abbrev pub DoesAct : WorkAct → List OutboxEntry → Result (Unit {0}) ConnectionEnd
    → List OutboxEntry → Type 0
DoesAct (act.Run k argv) old (Ok _) new = Starts k argv old new
DoesAct (act.Run k argv) old (Err e) new = e ≡ end.NoMemory
DoesAct (act.Interrupt k) old (Ok _) new = new ≡ old
DoesAct (act.Interrupt k) old (Err e) new = (e ≡ end.NoMemory) × (new ≡ old)
DoesAct act.Shutdown old r new = (r ≡ Err end.Shutdown) × (new ≡ old)
DoesAct a old r new = (r ≡ Ok tt) × (new ≡ old)

module _ {S : Type 0} where
  -- A login asks for the worker's session, and names a next one as its texts say. Where it wasn't
  -- answered nothing has changed, and no login was made where no text could be drawn for it.
  abbrev pub LogsIn : (S → Option (List ℕ)) → (S → Option (List ℕ)) → List ℕ → List ℕ → NamedTexts
      → WorkState S → SessionState S → Result Attached LinkFault → NamedTexts → SessionState S → Type 0
  LogsIn remaining contents name password texts link old (Ok a) texts2 new =
      (next : Option (List ℕ)) × (is_some next ≡ wants_next texts)
      × (texts2 ≡ after_answer a next texts)
      × ConnectsBy remaining contents name password texts.session next link old (Ok a) new
  LogsIn remaining contents name password texts link old (Err f) texts2 new =
      (texts2 ≡ texts) × (new ≡ old)
      × (((next : Option (List ℕ)) × (is_some next ≡ wants_next texts)
      × ConnectsBy remaining contents name password texts.session next link old (Err f) new)
      ⊎ (f ≡ link_fault.Mem))

  -- all but what waits to be told stays
  abbrev pub OnlyTells : SessionState S → SessionState S → Type 0
  OnlyTells old new = new ≡ record old { outbox = new.outbox }

  -- where something waits to be told nothing more is told
  abbrev pub TellsMore : List OutboxEntry → SessionState S → SessionState S → Type 0
  TellsMore [] old new = OnlyTells old new
  TellsMore (entry ∷ rest) old new = new ≡ old

  -- what waits to be told, and what is to be sent again, stay
  abbrev pub OnlyHears : SessionState S → SessionState S → Type 0
  OnlyHears old new = (new.outbox ≡ old.outbox) × (new.backlog ≡ old.backlog)

  -- Nothing is done yet, or the master is asked for a sign of life. A silent one, and a link by
  -- which it can't be asked, count as lost.
  abbrev pub KeepsAlive : (S → Option (List ℕ)) → Keepalive → SessionState S
      → Result (Unit {0}) ConnectionEnd → SessionState S → Type 0
  KeepsAlive contents keep.Wait old r new = (r ≡ Ok tt) × (new ≡ old)
  KeepsAlive contents keep.GiveUp old r new = (r ≡ Err end.Lost) × (new ≡ old)
  KeepsAlive contents keep.Ping old (Ok _) new = PingsBy contents old.link old (Ok tt) new
  KeepsAlive contents keep.Ping old (Err e) new =
      (e ≡ end.Lost) × ((f : LinkFault) × PingsBy contents old.link old (Err f) new)

  -- what is done by what was heard
  abbrev pub AfterAct : Turn → WorkAct → SessionState S → TriesState → Result Bool ConnectionEnd
      → SessionState S → TriesState → Type 0
  AfterAct t a old tries (Ok more) new tries2 =
      (more ≡ true) × DoesAct a old.outbox (Ok tt) new.outbox × OnlyTells old new
      × (tries2 ≡ after_turn t tries)
  AfterAct t a old tries (Err e) new tries2 =
      DoesAct a old.outbox (Err e) new.outbox × OnlyTells old new × (tries2 ≡ after_turn t tries)

  -- where nothing had come nothing is done, and nothing more is heard
  abbrev pub AfterHearing : Turn → WorkAct → SessionState S → TriesState
      → Result Bool ConnectionEnd → SessionState S → TriesState → Type 0
  AfterHearing turn.Quiet a old tries r new tries2 =
      (r ≡ Ok false) × (new ≡ old) × (tries2 ≡ tries)
  AfterHearing t a old tries r new tries2 = AfterAct t a old tries r new tries2

  -- what is done about what a turn of the link gave, where this session stands behind that turn
  abbrev pub AfterTurn : Result (Turn × WorkAct) LinkFault → SessionState S → TriesState
      → Result Bool ConnectionEnd → SessionState S → TriesState → Type 0
  AfterTurn (Ok heard) old tries r new tries2 = AfterHearing heard.0 heard.1 old tries r new tries2
  AfterTurn (Err f) old tries r new tries2 =
      (r ≡ Err (end_of_link (is_closed old.link))) × (new ≡ old) × (tries2 ≡ tries)

  -- one turn of the link, and what is done about what it gave, in one
  abbrev pub HearsOnce : (S → Option (List ℕ)) → (S → Option (List ℕ)) → SessionState S → TriesState
      → Result Bool ConnectionEnd → SessionState S → TriesState → Type 0
  HearsOnce remaining contents old tries r new tries2 =
      (heard : Result (Turn × WorkAct) LinkFault) × (mid : SessionState S)
      × HearsBy remaining contents old.link old heard mid
      × AfterTurn heard mid tries r new tries2

  -- the silence of an earlier connection is passed over
  abbrev pub TakesSilence : (S → Option (List ℕ)) → Bool → Keepalive → SessionState S
      → Result (Unit {0}) ConnectionEnd → SessionState S → Type 0
  TakesSilence contents true next old r new = KeepsAlive contents next old r new
  TakesSilence contents false next old r new = (r ≡ Ok tt) × (new ≡ old)

  -- Mail of a process changes nothing of the session, nor does that of an earlier connection.
  abbrev pub Takes : (S → Option (List ℕ)) → ℕ → WorkerMail → SessionState S
      → Result (Unit {0}) ConnectionEnd → SessionState S → Type 0
  Takes contents number (mail.Process told) old (Ok _) new = new ≡ old
  Takes contents number (mail.Process told) old (Err e) new = (e ≡ end.NoMemory) × (new ≡ old)
  Takes contents number (mail.Readable n) old r new = n ≢ number → (r ≡ Ok tt) × (new ≡ old)
  Takes contents number (mail.Silent n next) old r new =
      TakesSilence contents (n == number) next old r new

  -- What is sent next: the oldest request that is to be sent again, or else what waits first. Only
  -- where nothing waits more is told before that, and want of memory for it sends nothing.
  abbrev pub SendsOn : (S → Option (List ℕ)) → SessionState S → Result Bool ConnectionEnd
      → SessionState S → Type 0
  SendsOn contents old r new =
      (told : SessionState S) × TellsMore old.outbox old told
      × (((sent : Result Bool SessionFault) × (r ≡ after_sending sent)
      × SendsNext contents told.backlog told.link told sent new)
      ⊎ ((r ≡ Err end.NoMemory) × (new ≡ told)))
