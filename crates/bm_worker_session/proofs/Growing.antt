-- How a core's requests grow by what is told, and not by what is heard.
use Rattle.std.proofs.Common.{◌≡◌, refl, sym, ap, ◌∙◌, inl, inr, ℕ, ◌+◌, suc, Bool, true, false, List, [], ◌∷◌, ◌++◌, length, append-nil, arith, Option, Some, None, Result, Ok, Err}
use Rattle.tungstenite.specs.Socket.{Socket}
use Rattle.bm_msg.specs.Meaning.{Asked, Meaning, meaning, request, response}
use Rattle.bm_msg.specs.declared.incoming.Incoming.{Incoming}
use Rattle.bm_msg.specs.declared.incoming.Incoming.TheVariants as incoming
use Rattle.std.specs.FinMap.{get}
use Rattle.bm_work.specs.Core.{Core, heard, heard_bad, heard_request, next_number}
use Rattle.bm_work.specs.Stream.{Report, sent, stream_from}
use Rattle.bm_work.specs.declared.act.WorkAct.{WorkAct}
use Rattle.bm_work.specs.declared.sent.Sent.{Sent}
use Rattle.bm_work.specs.declared.worker_answer.WorkerAnswer.{WorkerAnswer}
use Rattle.bm_outbox.specs.OutboxEntries.{Tells, reports_in, told_core}
use Rattle.bm_outbox.specs.Telling.{TellsNext}
use Rattle.bm_outbox.specs.declared.outbox_entry.OutboxEntry.{OutboxEntry}
use Rattle.bm_outbox.specs.declared.outbox_entry.OutboxEntry.TheVariants as entry
use Rattle.bm_outbox.specs.declared.progress.Progress.{Progress}
use Rattle.bm_outbox.specs.declared.progress.Progress.TheVariants as progress
use Rattle.bm_link.specs.Received.{HearsOne, hearing_of}
use Rattle.bm_link.specs.Working.{WorkState, Worked, Works, WorksOn}
use Rattle.bm_link.specs.declared.fault.LinkFault.{LinkFault}
use Rattle.bm_link.specs.declared.turn.Turn.{Turn}
use Rattle.bm_link.specs.declared.turn.Turn.TheVariants as turn
use Rattle.bm_worker_session.specs.Sessions.{requests_of}

pub length-stream : (n : ℕ) (rs : List Report) → length (stream_from n rs) ≡ length rs
length-stream n [] = refl
length-stream n (r ∷ rs) = ap suc (length-stream (n + 1) rs)

pub streams_join : (n : ℕ) (first second : List Report) → stream_from n (first ++ second) ≡ stream_from n first ++ stream_from (n + length first) second
streams_join n [] second = ap (λ m. stream_from m second) (omega arith)
streams_join n (r ∷ first) second =
    let next : n + 1 + length first ≡ n + length (r ∷ first) = omega arith in
    ap (λ rest. sent n r ∷ rest) (streams_join (n + 1) first second ∙ ap (λ m. stream_from (n + 1) first ++ stream_from m second) next)

-- these requests are those of what was reported
abbrev pub Grows : Core → List Sent → Core → Type 0
Grows c handed c2 = (rs : List Report) × (c2.reports ≡ c.reports ++ rs) × (handed ≡ stream_from (next_number c) rs) × (c2.answered ≡ c.answered)

none-more : (c c2 : Core) → c2 ≡ c → Grows c [] c2
none-more c c2 same = ([], ap (λ (x : Core). x.reports) same ∙ sym (append-nil c.reports), refl, ap (λ (x : Core). x.answered) same)

told-reports : (i : OutboxEntry) (c : Core) → (told_core i c).reports ≡ c.reports ++ reports_in i
told-reports (entry.Text k said) c = refl
told-reports (entry.End k e) c = refl

told-answered : (i : OutboxEntry) (c : Core) → (told_core i c).answered ≡ c.answered
told-answered (entry.Text k said) c = refl
told-answered (entry.End k e) c = refl

tells-grow : (i : OutboxEntry) (c c2 : Core) (p : Progress) → Tells i c (Ok p) c2 → Grows c (requests_of (Ok p)) c2
tells-grow i c c2 (progress.Text s) (ok, h, is) = (reports_in i, ap (λ (x : Core). x.reports) is ∙ told-reports i c, h, ap (λ (x : Core). x.answered) is ∙ told-answered i c)
tells-grow i c c2 (progress.End v) (ok, h, is) = (reports_in i, ap (λ (x : Core). x.reports) is ∙ told-reports i c, h, ap (λ (x : Core). x.answered) is ∙ told-answered i c)
tells-grow i c c2 progress.Full (h, same) = none-more c c2 same
tells-grow i c c2 progress.Passed (h, same) = none-more c c2 same
tells-grow i c c2 progress.Nothing h = absurd h

-- telling what waits first
pub next_grows : (waiting waiting2 : List OutboxEntry) (c c2 : Core) (p : Progress) → TellsNext waiting c (Ok p) waiting2 c2 → Grows c (requests_of (Ok p)) c2
next_grows [] waiting2 c c2 progress.Nothing (is, e, same) = none-more c c2 same
next_grows [] waiting2 c c2 progress.Full (is, e, same) = none-more c c2 same
next_grows [] waiting2 c c2 progress.Passed (is, e, same) = none-more c c2 same
next_grows [] waiting2 c c2 (progress.Text s) (is, e, same) = cc
next_grows [] waiting2 c c2 (progress.End v) (is, e, same) = cc
next_grows (first ∷ rest) waiting2 c c2 p (h, e) = tells-grow first c c2 p h

request-reports : (c : Core) (n : ℕ) (asked : Asked) (o : Option WorkerAnswer) → (heard_request c n asked o).core.reports ≡ c.reports
request-reports c n asked (Some first) = refl
request-reports c n asked None = refl

bad-reports : (c : Core) (n : ℕ) (o : Option WorkerAnswer) → (heard_bad c n o).core.reports ≡ c.reports
bad-reports c n (Some first) = refl
bad-reports c n None = refl

heard-reports : (c : Core) (m : Meaning) → (heard c m).core.reports ≡ c.reports
heard-reports c (request n asked) = request-reports c n asked (get c.answers n)
heard-reports c (response n result exception) = refl

hearing-reports : (c : Core) (a : Incoming) → (hearing_of c a).core.reports ≡ c.reports
hearing-reports c (incoming.Message m) = heard-reports c (meaning m)
hearing-reports c (incoming.BadArgs n) = bad-reports c n (get c.answers n)

abbrev Same : Core → Core → Type 0
Same c c2 = c2.reports ≡ c.reports

same : (c c2 : Core) → c2 ≡ c → Same c c2
same c c2 e = ap (λ (x : Core). x.reports) e

module _ {S : Type 0} (remaining contents : S → Option (List ℕ)) where
  one-same : (old mid : Socket S) (c c2 : Core) (act : WorkAct) (reply : Option (List ℕ)) → HearsOne remaining old c act reply mid c2 → Same c c2
  one-same old mid c c2 act reply (a, reads, is, said, e) = ap (λ (x : Core). x.reports) e ∙ hearing-reports c a

  works-same : (t : Turn) (act : WorkAct) (old new : WorkState S) (c c2 : Core) → Works remaining contents t act old c new c2 → Same c c2
  works-same turn.Heard act old new c c2 (mid, bytes, one, sent) = one-same old.socket mid c c2 act (Some bytes) one
  works-same turn.Noted act old new c c2 (one, up) = one-same old.socket new.socket c c2 act None one
  works-same turn.Dropped act old new c c2 (read, is, e, up) = same c c2 e
  works-same turn.Quiet act old new c c2 (read, is, e, up) = same c c2 e
  works-same turn.Busy act old new c c2 h = absurd h

  on-same : (old new : WorkState S) (c c2 : Core) (r : Result (Turn × WorkAct) LinkFault) → WorksOn remaining contents old c r new c2 → Same c c2
  on-same old new c c2 (Ok (t, act)) (works, closed) = works-same t act old new c c2 works
  on-same old new c c2 (Err f) (failed, inl (is, closed, e, read)) = same c c2 e
  on-same old new c c2 (Err f) (failed, inr (inl (closed, e, read))) = same c c2 e
  on-same old new c c2 (Err f) (failed, inr (inr (closed, named, (act, bytes, mid, one, unsent)))) = one-same old.socket mid c c2 act (Some bytes) one

  -- a turn of the link
  pub turn_same : (b : Bool) (old new : WorkState S) (c c2 : Core) (r : Result (Turn × WorkAct) LinkFault) → Worked remaining contents b old c r new c2 → c2.reports ≡ c.reports
  turn_same true old new c c2 r (is, stays, e) = same c c2 e
  turn_same false old new c c2 r h = on-same old new c c2 r h
