-- A run in which a line comes to a viewer, move by move.
use Rattle.std.proofs.Common.{◌≡◌, refl, sym, ◌∙◌, ap, subst, false, ℕ, List, [], ◌∷◌, ◌++◌, None, Option, inl, lit<, lit≤, codes}
use Rattle.std.specs.Prelude.{Ok}
use Rattle.std.specs.FinMap.{get-empty}
use Rattle.std.specs.Ordering.{nat_cmp}
use Rattle.std.specs.declared.alloc.Global.{Global}
use Rattle.bm_lines.specs.Names.{stdio}
use Rattle.bm_lines.specs.declared.letter.Letter.TheVariants.{O}
use Rattle.bm_session.specs.Texts.{exception_text}
use Rattle.bm_session.specs.Trace.{log}
use Rattle.bm_session.specs.declared.event.Event.{Event}
use Rattle.bm_session.specs.declared.event.Event.TheVariants.{Go, In}
use Rattle.bm_session.specs.declared.event.Body.TheVariants.{Answered}
use Rattle.bm_session.specs.declared.reply.Reply.TheVariants.{Silent, Answer}
use Rattle.bm_session.specs.declared.reply.Verdict.TheVariants.{Done}
use Rattle.bm_lane.specs.Hearing.{with_event}
use Rattle.bm_link.specs.Carries.{Carried, carried_after}
use Rattle.bm_link.specs.Orders.{start_bytes, with_start}
use Rattle.bm_link.specs.Received.{hearing_of}
use Rattle.bm_msg.specs.Trees.{answer_bytes}
use Rattle.bm_outbox.specs.OutboxEntries.{told_core}
use Rattle.bm_outbox.specs.declared.outbox_entry.OutboxEntry.{OutboxEntry}
use Rattle.bm_outbox.specs.declared.outbox_entry.OutboxEntry.TheVariants as entry
use Rattle.bm_outbox.specs.declared.progress.Progress.TheVariants as progress
use Rattle.bm_replay.proofs.Bytes.{word}
use Rattle.bm_replay.specs.Wire.{CanBeSaid}
use Rattle.bm_work.specs.Core.{Core, Hearing, new_core, first_heard}
use Rattle.bm_work.specs.Replies.{reply}
use Rattle.bm_work.specs.Stream.{sent}
use Rattle.bm_work.specs.declared.act.WorkAct.TheVariants as acts
use Rattle.bm_work.specs.declared.worker_answer.WorkerAnswer.{WorkerAnswer}
use Rattle.bm_work.specs.declared.worker_answer.WorkerAnswer.TheVariants as work
use Rattle.bm_wired.specs.CanBeHeard.{CanBeHeard}
use Rattle.bm_wired.specs.Example.{words, report, up_to_telling, up_to_answering, up_to_looking, ShowsALine, RunsShowLines}
use Rattle.bm_wired.specs.ReadBack.{once, event_of_report}
use Rattle.bm_wired.specs.Wired.{Wired, Move, Run, Moves, Start, Turn, Wait, Tell, Listen, Drain, begun_wired, ordered, reply_in, AreSendable, EntryIsSayable}
use Rattle.bm_wired.proofs.Hearable.{orders_can_be_heard, answers_can_be_heard}
use Rattle.bm_wired.proofs.Main.{wired_is_schedule}
use Rattle.bm_wired.proofs.Meant.{starts_are_read, verdicts_are_read}
use Rattle.bm_wired.proofs.Reported.{reports_are_read, responses_are_read}

-- runs, one behind the other
join : (ms ns : List Move) (w v u : Wired) → Run w ms v → Run v ns u → Run w (ms ++ ns) u
join [] ns w v u e r = subst (λ (x : Wired). Run x ns u) e r
join (m ∷ ms) ns w v u h r = (h.0, h.1, join ms ns h.0 v u h.2 r)

heap : Global
heap = record { memory = record { seal = tt } }

pub sendable : AreSendable words
sendable = ((lit≤ tt, lit≤ tt), (word (codes "echo") refl, (word (codes "hello") refl, tt)))

abbrev pub entry-hello : OutboxEntry
entry-hello = entry.Text 0 record { letter = O; text = codes "hello\n"; short = lit≤ tt }

pub sayable : EntryIsSayable entry-hello
sayable = ((word (codes "hello\n") refl, lit≤ tt), tt)

pub can : CanBeSaid report
can = (lit< tt, word (codes "hello\n") refl, lit≤ tt)

-- what the worker hears

pub order : CanBeHeard (start_bytes 0 0 words)
order = orders_can_be_heard.0 heap 0 0 words (lit< tt) (lit< tt) sendable

abbrev pub started : Hearing
started = first_heard new_core 0 work.Done (acts.Run 0 words) (0 ∷ [])

pub hears-order : hearing_of new_core order.0 ≡ started
hears-order =
    (starts_are_read 0 0 (codes "echo") (codes "hello" ∷ []) (lit< tt) (lit< tt) sendable).2 new_core order.0 order.1
    ∙ ap (λ (o : Option WorkerAnswer). once new_core 0 work.Done (acts.Run 0 words) (0 ∷ []) o) (get-empty nat_cmp 0)

pub answer : CanBeHeard (answer_bytes 0 (exception_text Done))
answer = answers_can_be_heard 0 None (lit< tt) tt

abbrev pub answered-core : Core → Core
answered-core c = record { running = c.running; reports = c.reports; answered = 0 ∷ []; answers = c.answers }

-- the moves

module _ (id capacity : ℕ) (carry : Carried) (named : Option (List ℕ)) where
  abbrev w0 : Wired
  w0 = begun_wired id capacity carry named

  abbrev w1 : Wired
  w1 = ordered w0 Go (with_start w0.lane.trace words w0.carried) (start_bytes 0 0 words)

  m1 : Moves w0 (Start words) w1
  m1 = (sendable, inl (refl, refl))

  abbrev w2 : Wired
  w2 = record w1 { core = started.core; up = reply 0 work.Done ∷ []; down = [] }

  m2 : Moves w1 Listen w2
  m2 = (start_bytes 0 0 words, [], order.0, refl, order.1, ap (λ (h : Hearing). record w1 { core = h.core; up = [] ++ reply_in h.reply; down = [] }) (sym hears-order))

  abbrev answered-event : Event
  answered-event = In 0 (Answered false)

  abbrev w3 : Wired
  w3 = record w2 { lane = with_event w2.lane answered-event; carried = carried_after w2.carried answered-event; up = [] }

  m3 : Moves w2 Turn w3
  m3 = (reply 0 work.Done, [], answered-event, Ok Silent, w3.lane, refl, (responses_are_read 0 work.Done (lit< tt)).is, (refl, refl, refl), refl)

  abbrev w4 : Wired
  w4 = record w3 { outbox = entry-hello ∷ [] }

  m4 : Moves w3 (Wait (entry-hello ∷ [])) w4
  m4 = ((sayable, tt), refl)

  abbrev w5 : Wired
  w5 = record w4 { core = told_core entry-hello w4.core; outbox = []; up = (sent 0 report).bytes ∷ [] }

  m5 : Moves w4 Tell w5
  m5 = (Ok (progress.Text (sent 0 report)), [], w5.core, ((refl, refl, refl), refl), refl)

  abbrev update-event : Event
  update-event = event_of_report 0 report

  abbrev w6 : Wired
  w6 = record w5 { lane = with_event w5.lane update-event; carried = carried_after w5.carried update-event; up = []; down = answer_bytes 0 (exception_text Done) ∷ [] }

  m6 : Moves w5 Turn w6
  m6 = ((sent 0 report).bytes, [], update-event, Ok (Answer 0 Done), w6.lane, refl, (reports_are_read 0 report (lit< tt) can).is, (refl, refl, refl), refl)

  abbrev w7 : Wired
  w7 = record w6 { core = answered-core w6.core; up = []; down = [] }

  hears-answer : hearing_of w6.core answer.0 ≡ record { act = acts.Answered 0; reply = None; core = answered-core w6.core }
  hears-answer = (verdicts_are_read 0 Done (lit< tt)).1 w6.core answer.0 answer.1

  m7 : Moves w6 Listen w7
  m7 = (answer_bytes 0 (exception_text Done), [], answer.0, refl, answer.1, ap (λ (h : Hearing). record w6 { core = h.core; up = [] ++ reply_in h.reply; down = [] }) (sym hears-answer))

  abbrev w8 : Wired
  w8 = record w7 { shown = 1 }

  m8 : Moves w7 Drain w8
  m8 = (lit< tt, refl)

  abbrev w9 : Wired
  w9 = record w8 { shown = 2 }

  m9 : Moves w8 Drain w9
  m9 = (lit< tt, refl)

  telling : Run w0 (up_to_telling entry-hello) w5
  telling = (w1, m1, (w2, m2, (w3, m3, (w4, m4, (w5, m5, refl)))))

  answering : Run w5 up_to_answering w6
  answering = (w6, m6, refl)

  looking : Run w6 up_to_looking w9
  looking = (w7, m7, (w8, m8, (w9, m9, (w9, refl, refl))))

  abbrev all : List Move
  all = up_to_telling entry-hello ++ (up_to_answering ++ up_to_looking)

  whole : Run w0 all w9
  whole = join (up_to_telling entry-hello) (up_to_answering ++ up_to_looking) w0 w5 w9 telling (join up_to_answering up_to_looking w5 w6 w9 answering looking)

  pub shows : ShowsALine w0
  shows = let r = wired_is_schedule id capacity carry named all w9 whole in record {
    entry = entry-hello;
    is = refl;
    told = w5;
    telling = telling;
    under_way = refl;
    unlogged = refl;
    answered = w6;
    answering = answering;
    back = refl;
    unseen = refl;
    end = w9;
    looking = looking;
    arrived = (refl, refl, refl);
    seen = refl;
    schedule = (r.0, r.1, r.2, ap (λ t. log t 0 stdio) r.2.trace);
    whole = refl;
  }

pub runs_show_lines : RunsShowLines
runs_show_lines = shows
