-- A run over a cut, step by step.
use Rattle.std.proofs.Common.{◌≡◌, refl, sym, ap, true, false, ℕ, [], ◌∷◌, ◌++◌, Some, None, inl, lit<, codes}
use Rattle.std.specs.Prelude.{Ok}
use Rattle.bm_session.specs.Texts.{exception_text}
use Rattle.bm_session.specs.declared.event.Event.{Event}
use Rattle.bm_session.specs.declared.event.Event.TheVariants.{Go, In, Cut}
use Rattle.bm_session.specs.declared.event.Body.TheVariants.{Answered}
use Rattle.bm_session.specs.declared.reply.Reply.TheVariants.{Silent, Answer}
use Rattle.bm_session.specs.declared.reply.Verdict.TheVariants.{Done}
use Rattle.bm_lane.specs.Hearing.{with_event}
use Rattle.bm_link.specs.Attaching.{taken_up}
use Rattle.bm_link.specs.Carries.{carried_after}
use Rattle.bm_link.specs.Orders.{start_bytes, with_start}
use Rattle.bm_link.specs.Received.{hearing_of}
use Rattle.bm_msg.specs.Trees.{answer_bytes}
use Rattle.bm_outbox.specs.OutboxEntries.{told_core}
use Rattle.bm_outbox.specs.declared.progress.Progress.TheVariants as progress
use Rattle.bm_work.specs.Core.{Hearing}
use Rattle.bm_work.specs.Replies.{reply}
use Rattle.bm_work.specs.Stream.{sent}
use Rattle.bm_work.specs.declared.act.WorkAct.TheVariants as acts
use Rattle.bm_work.specs.declared.worker_answer.WorkerAnswer.TheVariants as work
use Rattle.bm_wired.specs.Cuts.{Joined, Goes, Steps, Resend, Leave, Lose, Meet, Begin, Apart, apart, begun_by, broken}
use Rattle.bm_wired.specs.CutExample.{up_to_a_cut, up_to_sending_again, up_to_showing, ShowsOnce, CutsShowLines}
use Rattle.bm_wired.specs.Example.{words, report}
use Rattle.bm_wired.specs.ReadBack.{event_of_report}
use Rattle.bm_wired.specs.Wired.{Wired, Moves, Start, Turn, Wait, Tell, Listen, ordered, reply_in}
use Rattle.bm_wired.proofs.Meant.{verdicts_are_read}
use Rattle.bm_wired.proofs.Reported.{reports_are_read, responses_are_read}
use Rattle.bm_wired.proofs.Example.{sendable, sayable, can, order, hears-order, answer, entry-hello, started, answered-core}
use Rattle.bm_wired.proofs.CutLane.{made}
use Rattle.bm_wired.proofs.CutMeets.{met}

abbrev answered-event : Event
answered-event = In 0 (Answered false)

abbrev update-event : Event
update-event = event_of_report 0 report

module _ (id capacity : ℕ) where
  abbrev pub x0 : Joined
  x0 = apart id capacity true

  abbrev pub x1 : Joined
  x1 = met x0 (taken_up false x0.wired.lane) false (Some (codes "s"))

  pub s1 : Steps x0 (Meet false (Some (codes "s"))) x1
  s1 = (refl, refl, (λ e. absurd cc), refl)

  abbrev pub x2 : Joined
  x2 = begun_by false x1

  pub s2 : Steps x1 Begin x2
  s2 = (false, refl, refl)

  abbrev pub v3 : Wired
  v3 = ordered x2.wired Go (with_start x2.wired.lane.trace words x2.wired.carried) (start_bytes 0 0 words)

  abbrev pub x3 : Joined
  x3 = made x2 v3

  pub m3 : Moves x2.wired (Start words) v3
  m3 = (sendable, inl (refl, refl))

  abbrev pub v4 : Wired
  v4 = record x3.wired { core = started.core; up = reply 0 work.Done ∷ []; down = [] }

  abbrev pub x4 : Joined
  x4 = made x3 v4

  pub m4 : Moves x3.wired Listen v4
  m4 = (start_bytes 0 0 words, [], order.0, refl, order.1, ap (λ (h : Hearing). record x3.wired { core = h.core; up = [] ++ reply_in h.reply; down = [] }) (sym hears-order))

  abbrev pub v5 : Wired
  v5 = record x4.wired { lane = with_event x4.wired.lane answered-event; carried = carried_after x4.wired.carried answered-event; up = [] }

  abbrev pub x5 : Joined
  x5 = made x4 v5

  pub m5 : Moves x4.wired Turn v5
  m5 = (reply 0 work.Done, [], answered-event, Ok Silent, v5.lane, refl, (responses_are_read 0 work.Done (lit< tt)).is, (refl, refl, refl), refl)

  abbrev pub v6 : Wired
  v6 = record x5.wired { outbox = entry-hello ∷ [] }

  abbrev pub x6 : Joined
  x6 = made x5 v6

  pub m6 : Moves x5.wired (Wait (entry-hello ∷ [])) v6
  m6 = ((sayable, tt), refl)

  abbrev pub v7 : Wired
  v7 = record x6.wired { core = told_core entry-hello x6.wired.core; outbox = []; up = (sent 0 report).bytes ∷ [] }

  abbrev pub x7 : Joined
  x7 = made x6 v7

  pub m7 : Moves x6.wired Tell v7
  m7 = (Ok (progress.Text (sent 0 report)), [], v7.core, ((refl, refl, refl), refl), refl)

  abbrev pub v8 : Wired
  v8 = record x7.wired { lane = with_event x7.wired.lane update-event; carried = carried_after x7.wired.carried update-event; up = []; down = answer_bytes 0 (exception_text Done) ∷ [] }

  abbrev pub x8 : Joined
  x8 = made x7 v8

  pub m8 : Moves x7.wired Turn v8
  m8 = ((sent 0 report).bytes, [], update-event, Ok (Answer 0 Done), v8.lane, refl, (reports_are_read 0 report (lit< tt) can).is, (refl, refl, refl), refl)

  abbrev pub x9 : Joined
  x9 = broken x8 (record x8.wired { up = []; down = [] })

  abbrev pub x10 : Joined
  x10 = broken x9 (record x9.wired { lane = with_event x9.wired.lane Cut; up = [] })

  pub s10 : Steps x9 (Lose Cut) x10
  s10 = (Silent, x10.wired.lane, inl refl, (refl, refl, refl), refl)

  abbrev pub x11 : Joined
  x11 = record x10 { wired = record x10.wired { down = [] }; link = Apart; backlog = []; whole = false }

  pub s11 : Steps x10 Leave x11
  s11 = (broken x10 (record x10.wired { down = [] }), refl, refl)

  cutting : Goes x0 (up_to_a_cut entry-hello) x11
  cutting = (x1, s1, (x2, s2, (x3, (v3, tt, m3, refl), (x4, (v4, refl, m4, refl), (x5, (v5, tt, m5, refl), (x6, (v6, tt, m6, refl), (x7, (v7, (refl, refl), m7, refl), (x8, (v8, tt, m8, refl), (x9, refl, (x10, s10, (x11, s11, refl)))))))))))

  -- once more

  abbrev pub x12 : Joined
  x12 = met x11 (taken_up true x11.wired.lane) true None

  pub s12 : Steps x11 (Meet true None) x12
  s12 = (refl, refl, (λ e. (refl, inl refl)), refl)

  abbrev pub x13 : Joined
  x13 = begun_by true x12

  pub s13 : Steps x12 Begin x13
  s13 = (true, refl, refl)

  abbrev pub x14 : Joined
  x14 = record x13 { wired = record x13.wired { up = (sent 0 report).bytes ∷ [] }; backlog = [] }

  pub s14 : Steps x13 Resend x14
  s14 = (sent 0 report, [], refl, refl, refl)

  sending : Goes x11 up_to_sending_again x14
  sending = (x12, s12, (x13, s13, (x14, s14, refl)))

  -- to its end

  abbrev pub v15 : Wired
  v15 = record x14.wired { lane = with_event x14.wired.lane update-event; carried = carried_after x14.wired.carried update-event; up = []; down = answer_bytes 0 (exception_text Done) ∷ [] }

  abbrev pub x15 : Joined
  x15 = made x14 v15

  pub m15 : Moves x14.wired Turn v15
  m15 = ((sent 0 report).bytes, [], update-event, Ok (Answer 0 Done), v15.lane, refl, (reports_are_read 0 report (lit< tt) can).is, (refl, refl, refl), refl)

  abbrev pub v16 : Wired
  v16 = record x15.wired { core = answered-core x15.wired.core; up = []; down = [] }

  abbrev pub x16 : Joined
  x16 = made x15 v16

  hears-answer : hearing_of x15.wired.core answer.0 ≡ record { act = acts.Answered 0; reply = None; core = answered-core x15.wired.core }
  hears-answer = (verdicts_are_read 0 Done (lit< tt)).1 x15.wired.core answer.0 answer.1

  pub m16 : Moves x15.wired Listen v16
  m16 = (answer_bytes 0 (exception_text Done), [], answer.0, refl, answer.1, ap (λ (h : Hearing). record x15.wired { core = h.core; up = [] ++ reply_in h.reply; down = [] }) (sym hears-answer))

  abbrev pub v17 : Wired
  v17 = record x16.wired { shown = 1 }

  abbrev pub x17 : Joined
  x17 = made x16 v17

  abbrev pub v18 : Wired
  v18 = record x17.wired { shown = 2 }

  abbrev pub x18 : Joined
  x18 = made x17 v18

  showing : Goes x14 up_to_showing x18
  showing = (x15, (v15, tt, m15, refl), (x16, (v16, refl, m16, refl), (x17, (v17, tt, (lit< tt, refl), refl), (x18, (v18, tt, (lit< tt, refl), refl), refl))))

  shows : ShowsOnce x0
  shows = record {
    entry = entry-hello;
    is = refl;
    cut = x11;
    cutting = cutting;
    logged = refl;
    unanswered = refl;
    again = x14;
    sending = sending;
    under_way = refl;
    end = x18;
    showing = showing;
    answered = refl;
    seen = refl;
    once = refl;
    said = refl;
  }

pub cuts_show_lines : CutsShowLines
cuts_show_lines = shows
