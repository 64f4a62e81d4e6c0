-- Messages are read back as they were meant: by a worker its master's, and by a lane and its link
-- the worker's.
use Rattle.std.specs.Prelude.{◌≡◌, ◌<◌, ◌^◌, ℕ, List, [], ◌∷◌, length, codes, nat_le, false, Option, Some, None, is_some, if◌then◌else◌}
use Rattle.std.specs.FinMap.{get}
use Rattle.std.specs.Str.{IsUtf8}
use Rattle.bm_lines.specs.LineBatches.{with_item}
use Rattle.bm_lines.specs.Lines.{lines_of}
use Rattle.bm_lines.specs.Names.{stdio}
use Rattle.bm_msg.specs.Incoming.{said, message}
use Rattle.bm_msg.specs.Meaning.{Meaning, request, start_command, interrupt_command}
use Rattle.bm_msg.specs.Trees.{answer, answer_bytes}
use Rattle.bm_msg.specs.declared.incoming.Incoming.{Incoming}
use Rattle.bm_session.specs.Texts.{exception_text}
use Rattle.bm_session.specs.declared.event.Event.{Event}
use Rattle.bm_session.specs.declared.event.Event.TheVariants.{In}
use Rattle.bm_session.specs.declared.event.Body.TheVariants.{Update, Complete, Answered}
use Rattle.bm_session.specs.declared.reply.Verdict.{Verdict}
use Rattle.bm_work.specs.Argv.{argv_of}
use Rattle.bm_work.specs.Core.{Core, Hearing, new_core, runs, awaits, freed, first_heard, repeated}
use Rattle.bm_work.specs.Replies.{reply}
use Rattle.bm_work.specs.Stream.{Report, text, code, over, sent}
use Rattle.bm_work.specs.WorkerAnswers.{is_done, is_exception}
use Rattle.bm_work.specs.declared.act.WorkAct.{WorkAct}
use Rattle.bm_work.specs.declared.act.WorkAct.TheVariants as acts
use Rattle.bm_work.specs.declared.worker_answer.WorkerAnswer.{WorkerAnswer}
use Rattle.bm_work.specs.declared.worker_answer.WorkerAnswer.TheVariants as work
use Rattle.bm_link.specs.Asks.{asks_for, ask_bytes, texts_of}
use Rattle.bm_link.specs.Incoming.{IsEventOf}
use Rattle.bm_link.specs.Orders.{args_of, start_bytes, interrupt_bytes}
use Rattle.bm_link.specs.Received.{AreSaid, hearing_of}
use Rattle.bm_link.specs.declared.asks.Ask.{Ask}
use Rattle.bm_link.specs.declared.asks.Ask.TheVariants as ask
use Rattle.bm_replay.specs.Wire.{AreRead, CanBeSaid}
use Rattle.bm_wired.specs.Wired.{AreSendable}

-- ---- the master's requests

-- The bytes are this message: they spell a tree that is decoded and is it. A worker hears nothing
-- else in them.
pub record AreMeant (bytes : List ℕ) (m : Meaning) : Type 0 where
  pub read : AreRead bytes m
  pub alone : (a : Incoming) → AreSaid bytes a → said a ≡ message m

-- whatever a worker hears in the bytes, it leads to this
abbrev pub LeadTo : List ℕ → (Core → Hearing) → Type 0
LeadTo bytes hearing =
    (core : Core) (a : Incoming) → AreSaid bytes a → hearing_of core a ≡ hearing core

-- What a worker does on request n, by the answer to an earlier one with that number. A first one
-- has this answer, this act, and the commands that it starts. A repeat gets the earlier answer, and
-- leads to nothing else.
abbrev pub once : Core → ℕ → WorkerAnswer → WorkAct → List ℕ → Option WorkerAnswer → Hearing
once core n a work started (Some first) = repeated core n first
once core n a work started None = first_heard core n a work started

-- how a start of command k is answered
abbrev pub answer_to_start : Core → ℕ → WorkerAnswer
answer_to_start core k =
    if runs core k then work.AlreadyRuns else
    if nat_le 4 (length core.running) then work.TooManyCommands else
    work.Done

-- it runs exactly that command with exactly those words, where it is answered so
abbrev pub run_of : ℕ → List (List ℕ) → WorkerAnswer → WorkAct
run_of k argv a = if is_done a then acts.Run k argv else acts.Nothing

abbrev pub started_of : ℕ → WorkerAnswer → List ℕ
started_of k a = if is_done a then k ∷ [] else []

-- a start of command k with these words, as request n
abbrev pub hears_start : ℕ → ℕ → List (List ℕ) → Core → Hearing
hears_start n k argv core = let a = answer_to_start core k in
    once core n a (run_of k argv a) (started_of k a) (get core.answers n)

-- An order to start command k with a program and its words, numbered n. It is read as that, its
-- words are those, and the worker runs exactly it or refuses it.
abbrev pub StartsAreRead : Type 0
StartsAreRead =
    (n k : ℕ) (program : List ℕ) (words : List (List ℕ)) → n < 2 ^ 63 → k < 2 ^ 63
    → AreSendable (program ∷ words)
    → AreMeant (start_bytes n k (program ∷ words))
    (request n (start_command k (codes "shell") (args_of (program ∷ words))))
    × (argv_of (args_of (program ∷ words)) ≡ Some (program ∷ words))
    × LeadTo (start_bytes n k (program ∷ words)) (hears_start n k (program ∷ words))

-- Whatever command a worker runs on such bytes, it is that command with those words.
abbrev pub RunsAreMeant : Type 0
RunsAreMeant =
    (n k : ℕ) (argv : List (List ℕ)) → n < 2 ^ 63 → k < 2 ^ 63 → AreSendable argv
    → (core : Core) (a : Incoming) (j : ℕ) (others : List (List ℕ))
    → AreSaid (start_bytes n k argv) a
    → (hearing_of core a).act ≡ acts.Run j others → (j ≡ k) × (others ≡ argv)

-- A start is run where it comes for the first time, its command doesn't run, and fewer than four
-- do.
abbrev pub StartsAreRun : Type 0
StartsAreRun =
    (n k : ℕ) (program : List ℕ) (words : List (List ℕ)) → n < 2 ^ 63 → k < 2 ^ 63
    → AreSendable (program ∷ words) → (core : Core) (a : Incoming)
    → AreSaid (start_bytes n k (program ∷ words)) a → get core.answers n ≡ None
    → runs core k ≡ false → length core.running < 4
    → (hearing_of core a).act ≡ acts.Run k (program ∷ words)

-- So a new worker runs it.
abbrev pub NewWorkersRun : Type 0
NewWorkersRun =
    (n k : ℕ) (program : List ℕ) (words : List (List ℕ)) → n < 2 ^ 63 → k < 2 ^ 63
    → AreSendable (program ∷ words) → (a : Incoming)
    → AreSaid (start_bytes n k (program ∷ words)) a
    → (hearing_of new_core a).act ≡ acts.Run k (program ∷ words)

-- A start without words is refused.
abbrev pub EmptyStartsAreRefused : Type 0
EmptyStartsAreRefused =
    (n k : ℕ) → n < 2 ^ 63 → k < 2 ^ 63
    → LeadTo (start_bytes n k [])
    (λ core. once core n work.BadArguments acts.Nothing [] (get core.answers n))

-- ---- its other requests

-- an interruption of command k, as request n
abbrev pub hears_interrupt : ℕ → ℕ → Core → Hearing
hears_interrupt n k core =
    if runs core k then once core n work.Done (acts.Interrupt k) [] (get core.answers n)
    else once core n work.NoSuchCommand acts.Nothing [] (get core.answers n)

-- An order to interrupt command k, numbered n, interrupts that command, or is refused.
abbrev pub InterruptsAreRead : Type 0
InterruptsAreRead =
    (n k : ℕ) → n < 2 ^ 63 → k < 2 ^ 63
    → AreMeant (interrupt_bytes n k) (request n (interrupt_command k (codes "stop")))
    × LeadTo (interrupt_bytes n k) (hears_interrupt n k)

-- whatever else is asked, as request n: it is done at once
abbrev pub hears_ask : ℕ → Ask → Core → Hearing
hears_ask n (ask.Print shown) core =
    once core n work.Done (acts.Print shown) [] (get core.answers n)
hears_ask n ask.Keepalive core = once core n work.Done acts.Nothing [] (get core.answers n)
hears_ask n ask.GetWorkerInfo core = once core n work.Info acts.Info [] (get core.answers n)
hears_ask n ask.Shutdown core = once core n work.Done acts.Shutdown [] (get core.answers n)

-- Whatever else a master asks, the worker does that.
abbrev pub AsksAreRead : Type 0
AsksAreRead =
    (n : ℕ) (a : Ask) → n < 2 ^ 63 → AreSendable (texts_of a)
    → AreMeant (ask_bytes n a) (request n (asks_for a)) × LeadTo (ask_bytes n a) (hears_ask n a)

-- ---- its answers

-- an exception's text is in UTF-8, and no longer than MessagePack can say
abbrev pub IsTellable : Option (List ℕ) → Type 0
IsTellable None = Unit {0}
IsTellable (Some why) = IsUtf8 why × (length why < 2 ^ 32)

-- the answer to the worker's request n frees that request, where it is awaited
abbrev pub hears_answer : ℕ → Core → Hearing
hears_answer n core =
    record {
      act = if awaits core n then acts.Answered n else acts.Nothing;
      reply = None;
      core = freed core n;
    }

-- The answer to request n, with an exception or none, is read as that.
abbrev pub AnswersAreRead : Type 0
AnswersAreRead =
    (n : ℕ) (exception : Option (List ℕ)) → n < 2 ^ 63 → IsTellable exception
    → AreMeant (answer_bytes n exception) (answer n exception)
    × LeadTo (answer_bytes n exception) (hears_answer n)

-- So is whatever a session answers.
abbrev pub VerdictsAreRead : Type 0
VerdictsAreRead =
    (n : ℕ) (v : Verdict) → n < 2 ^ 63
    → AreMeant (answer_bytes n (exception_text v)) (answer n (exception_text v))
    × LeadTo (answer_bytes n (exception_text v)) (hears_answer n)

-- ---- the worker's messages

-- The bytes are this event: a lane reads it, and nothing else, in them.
pub record AreEvent (bytes : List ℕ) (e : Event) : Type 0 where
  pub is : IsEventOf bytes e
  pub alone : (other : Event) → IsEventOf bytes other → other ≡ e

-- what request n reports: lines of the log stdio, an exit code, or a command's end and whether it
-- went wrong
abbrev pub event_of_report : ℕ → Report → Event
event_of_report n (text k letter t) = In n (Update k (with_item stdio (lines_of letter t) []) None)
event_of_report n (code k z) = In n (Update k [] (Some z))
event_of_report n (over k fault) = In n (Complete k (is_some fault))

-- Request n of a worker is read as what it reports.
abbrev pub ReportsAreRead : Type 0
ReportsAreRead =
    (n : ℕ) (r : Report) → n < 2 ^ 63 → CanBeSaid r
    → AreEvent (sent n r).bytes (event_of_report n r)

-- Its response to request n is read as that, and as an exception where it is one.
abbrev pub ResponsesAreRead : Type 0
ResponsesAreRead =
    (n : ℕ) (a : WorkerAnswer) → n < 2 ^ 63
    → AreEvent (reply n a) (In n (Answered (is_exception a)))
