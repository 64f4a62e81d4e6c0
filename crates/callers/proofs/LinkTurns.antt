-- What a turn of a link answers and leaves.
use Rattle.std.proofs.Common.{◌≡◌, ◌≢◌, ◌∙◌, refl, sym, ap, subst, inl, inr, ℕ, Bool, true, List, [], ◌∷◌, ◌++◌, append-nil, rules, ◌⊎◌, Option, Some, None, Result, Ok, Err}
use Rattle.std.specs.Prelude.{IfOk}
use Rattle.tungstenite.specs.Content.{binary}
use Rattle.tungstenite.specs.Socket.{Flushed, Reads, Socket, content_of}
use Rattle.tungstenite.specs.declared.error.Error.{Error}
use Rattle.tungstenite.specs.declared.message.Message.{Message}
use Rattle.tungstenite.specs.declared.message.Message.TheVariants as message
use Rattle.bm_session.specs.declared.event.Event.{Event}
use Rattle.bm_session.specs.declared.event.Event.TheVariants.{Cut, Down}
use Rattle.bm_session.specs.Trace.{refusal}
use Rattle.bm_lane.specs.Ends.{Heard}
use Rattle.bm_lane.specs.Hearing.{with_event, TraceRefuses}
use Rattle.bm_lane.specs.declared.refusals.HearRefusal.{HearRefusal}
use Rattle.bm_lane.specs.declared.refusals.HearRefusal.TheVariants.{Busy, Session}
use Rattle.bm_link.specs.declared.fault.LinkFault.{LinkFault}
use Rattle.bm_link.specs.declared.fault.LinkFault.TheVariants.{Lane, Stream}
use Rattle.bm_link.specs.declared.ending.Stage.{Stage}
use Rattle.bm_link.specs.declared.ending.Stage.TheVariants as stage
use Rattle.bm_link.specs.declared.turn.Turn.{Turn}
use Rattle.bm_link.specs.declared.turn.Turn.TheVariants as turn
use Rattle.bm_link.specs.Carries.{Carried}
use Rattle.bm_link.specs.Causes.{FailsToRead, IsPassedOver}
use Rattle.bm_link.specs.Endings.{Ends, EndsAt, Falls, stage_after}
use Rattle.bm_link.specs.Link.{LinkState, Turned}
use Rattle.bm_link.specs.Parts.{Comes}
use Rattle.callers.specs.Link.{BeginsWithBinary, IsAsRead, TookNone}
use mathlib.Core.List.{IsPrefix}
use Rattle.websocket.proofs.StreamLemmas.{read_step-append}
use Rattle.callers.proofs.LinkFaults.{read_no_lane, session_not_busy, stream_is_io, unsent_no_lane}
use Rattle.callers.proofs.LinkReads.{IsIdle, fails_quietly, first_is, reads_none}

passes_no_binary : (m : Message) (bytes : List ℕ) → IsPassedOver m → content_of m ≢ binary bytes
passes_no_binary (message.Text s) bytes over h = cc
passes_no_binary (message.Binary s) bytes over h = over
passes_no_binary (message.Ping s) bytes over h = cc
passes_no_binary (message.Pong s) bytes over h = cc
passes_no_binary (message.Close frame) bytes over h = over

-- a trace with an event more
pub grows : (lane lane2 : Heard) (e : Event) → lane2 ≡ with_event lane e → lane2.trace ≡ lane.trace ++ e ∷ []
grows lane lane2 e h = ap (λ (l : Heard). l.trace) h

begun_same : (front t : List Event) → t ≡ front → IsPrefix front t
begun_same front t h = ([], append-nil front ∙ sym h)

-- a lane that falls takes a Down, or nothing
fallen : (lane lane2 : Heard) (e : _) → Falls lane lane2 e → (lane2 ≡ with_event lane Down) ⊎ (lane2 ≡ lane)
fallen lane lane2 e h = search rules

fallen_begun : (front : List Event) (lane lane2 : Heard) → lane.trace ≡ front → (lane2 ≡ with_event lane Down) ⊎ (lane2 ≡ lane) → IsPrefix front lane2.trace
fallen_begun front lane lane2 b (inl is) = (Down ∷ [], sym (grows lane lane2 Down is ∙ ap (λ (t : List Event). t ++ Down ∷ []) b))
fallen_begun front lane lane2 b (inr is) = begun_same front lane2.trace (ap (λ (l : Heard). l.trace) is ∙ b)

ends_begun : (front : List Event) (cuts : Bool) (lane lane2 : Heard) (s : Stage) → lane.trace ≡ front → EndsAt cuts lane lane2 s → IsPrefix front lane2.trace
ends_begun front cuts lane lane2 s b (e, inl (may, cut, is), at) = (Cut ∷ [], sym (grows lane lane2 Cut is ∙ ap (λ (t : List Event). t ++ Cut ∷ []) b))
ends_begun front cuts lane lane2 s b (e, inr (uncut, falls), at) = fallen_begun front lane lane2 b (fallen lane lane2 e falls)

cut_not_refused : (lane : Heard) (why : HearRefusal) → refusal lane.trace Cut ≡ None → TraceRefuses lane Cut why → ⊥
cut_not_refused lane (Session r) none h = cc
cut_not_refused lane Busy none h = h

pub cuts_up : (lane lane2 : Heard) (e : _) → refusal lane.trace Cut ≡ None → Ends true lane lane2 e → lane2 ≡ with_event lane Cut
cuts_up lane lane2 e none (inl (may, cut, is)) = is
cuts_up lane lane2 e none (inr (inl never, falls)) = absurd (cc)
cuts_up lane lane2 e none (inr (inr (why, refuses), falls)) = absurd (cut_not_refused lane why none refuses)

-- a link that has failed, or on which nothing is up
abbrev pub IsOver : Stage → Type 0
IsOver stage.Up = ⊥
IsOver _ = Unit {0}

ended_over : (e : _) → IsOver (stage_after e)
ended_over e = search rules

module _ {S : Type 0} (remaining contents : S → Option (List ℕ)) where
  pub never_busy : (s : Stage) (old : LinkState S) (lane : Heard) (carry : Carried) (r : Result Turn LinkFault) (new : LinkState S) (lane2 : Heard) (carry2 : Carried)
      → Turned remaining contents s old lane carry r new lane2 carry2 → r ≢ Err (Lane Busy)
  never_busy s old lane carry (Ok t) new lane2 carry2 h e = cc
  never_busy stage.Up old lane carry (Err f) new lane2 carry2 (mid, inl (stays, none, fails), ends, kept) e =
      read_no_lane remaining contents old.socket new.socket f Busy fails (cc)
  never_busy stage.Up old lane carry (Err f) new lane2 carry2 (mid, inr (event, s, comes, inl (stays, same, (why, refuses, is))), ends, kept) e =
      session_not_busy why (cc)
  never_busy stage.Up old lane carry (Err f) new lane2 carry2 (mid, inr (event, s, comes, inr (took, (n, v, asks, unsent))), ends, kept) e =
      unsent_no_lane contents _ s new.socket f Busy unsent (cc)
  never_busy (stage.Falling cuts) old lane carry (Err f) new lane2 carry2 h e = let is = h.0 in cc
  never_busy stage.Open old lane carry (Err f) new lane2 carry2 h e = let is = h.0 in cc
  never_busy stage.Failed old lane carry (Err f) new lane2 carry2 h e = let is = h.0 in cc

  noted : (s : Stage) (old : LinkState S) (lane : Heard) (carry : Carried) (new : LinkState S) (lane2 : Heard) (carry2 : Carried)
      → Turned remaining contents s old lane carry (Ok turn.Noted) new lane2 carry2
      → (e : Event) × Comes remaining old.kept old.socket e new.socket × (lane2.trace ≡ lane.trace ++ e ∷ [])
  noted stage.Up old lane carry new lane2 carry2 (e, mid, comes, ((grown, carried), silent, same), up, kept) =
      (e, subst (λ (s : Socket S). Comes remaining old.kept old.socket e s) (sym same) comes, grows lane lane2 e grown)
  noted (stage.Falling cuts) old lane carry new lane2 carry2 h = absurd h
  noted stage.Open old lane carry new lane2 carry2 h = let is = h.0 in absurd (cc)
  noted stage.Failed old lane carry new lane2 carry2 h = let is = h.0 in absurd (cc)

  pub noted_was_taken : (s : Stage) (old : LinkState S) (lane : Heard) (carry : Carried) (r : Result Turn LinkFault) (new : LinkState S) (lane2 : Heard) (carry2 : Carried)
      → Turned remaining contents s old lane carry r new lane2 carry2 → r ≡ Ok turn.Noted
      → (e : Event) × Comes remaining old.kept old.socket e new.socket × (lane2.trace ≡ lane.trace ++ e ∷ [])
  noted_was_taken s old lane carry r new lane2 carry2 h is =
      noted s old lane carry new lane2 carry2 (subst (λ (x : Result Turn LinkFault). Turned remaining contents s old lane carry x new lane2 carry2) is h)

  dropped : (s : Stage) (old : LinkState S) (lane : Heard) (carry : Carried) (new : LinkState S) (lane2 : Heard) (carry2 : Carried)
      → BeginsWithBinary old.socket → Turned remaining contents s old lane carry (Ok turn.Dropped) new lane2 carry2 → ⊥
  dropped stage.Up old lane carry new lane2 carry2 (frame, bytes, whole, has) (idle, (m, (run, got, c, left, sent, runs, gave), over)) =
      let with_more = read_step-append old.socket.conn old.socket.input got (λ w. cc (whole, w.1)) in
      passes_no_binary m bytes over (first_is old.socket.conn c (old.socket.input ++ got) left run (content_of m) frame bytes runs gave.0 (with_more ∙ whole) has)
  dropped (stage.Falling cuts) old lane carry new lane2 carry2 begins h = h
  dropped stage.Open old lane carry new lane2 carry2 begins h = let is = h.0 in cc
  dropped stage.Failed old lane carry new lane2 carry2 begins h = let is = h.0 in cc

  pub not_passed_over : (s : Stage) (old : LinkState S) (lane : Heard) (carry : Carried) (r : Result Turn LinkFault) (new : LinkState S) (lane2 : Heard) (carry2 : Carried)
      → BeginsWithBinary old.socket → Turned remaining contents s old lane carry r new lane2 carry2 → r ≢ Ok turn.Dropped
  not_passed_over s old lane carry r new lane2 carry2 begins h is =
      dropped s old lane carry new lane2 carry2 begins (subst (λ (x : Result Turn LinkFault). Turned remaining contents s old lane carry x new lane2 carry2) is h)

  as_before : (kept : Option Event) (old new : Socket S) → new ≡ old → IsAsRead remaining contents kept old new
  as_before None old new same = inl same
  as_before (Some k) old new same = same

  as_read : (kept : Option Event) (old mid new : Socket S) (r : Result Message Error) → kept ≡ None → Reads remaining old mid r
      → (new ≡ mid) ⊎ Flushed contents mid new → IsAsRead remaining contents kept old new
  as_read None old mid new r none reads left = inr (mid, r, reads, left)
  as_read (Some k) old mid new r none reads left = absurd (cc)

  as_come : (kept : Option Event) (old mid : Socket S) (e : Event) → Comes remaining kept old e mid → IsAsRead remaining contents kept old mid
  as_come None old mid e (bs, m, reads, has, gives) = inr (mid, Ok m, reads, inl refl)
  as_come (Some k) old mid e (is, same) = same

  as_failed : (kept : Option Event) (old new : Socket S) (f : LinkFault) → kept ≡ None → FailsToRead remaining contents old f new
      → IsAsRead remaining contents kept old new
  as_failed kept old new f none (inl (x, reads, is, loud)) = as_read kept old new new (Err x) none reads (inl refl)
  as_failed kept old new f none (inr (inl (m, mid, reads, closes, flushed, is))) = as_read kept old mid new (Ok m) none reads (inr flushed)
  as_failed kept old new f none (inr (inr (bs, m, reads, has, gives))) = as_read kept old new new (Ok m) none reads (inl refl)

  pub unless_taken : (s : Stage) (old : LinkState S) (lane : Heard) (carry : Carried) (r : Result Turn LinkFault) (new : LinkState S) (lane2 : Heard) (carry2 : Carried)
      → Turned remaining contents s old lane carry r new lane2 carry2 → TookNone remaining old.kept old.socket lane.trace lane2.trace
      → IsAsRead remaining contents old.kept old.socket new.socket
  unless_taken stage.Up old lane carry (Ok turn.Heard) new lane2 carry2 (e, mid, comes, took, up, kept) untaken =
      absurd (untaken e mid comes (begun_same (lane.trace ++ e ∷ []) lane2.trace (grows lane lane2 e took.0.0)))
  unless_taken stage.Up old lane carry (Ok turn.Noted) new lane2 carry2 (e, mid, comes, took, up, kept) untaken =
      absurd (untaken e mid comes (begun_same (lane.trace ++ e ∷ []) lane2.trace (grows lane lane2 e took.0.0)))
  unless_taken stage.Up old lane carry (Ok turn.Dropped) new lane2 carry2 (idle, (m, reads, over)) untaken =
      as_read old.kept old.socket new.socket new.socket (Ok m) idle.0 reads (inl refl)
  unless_taken stage.Up old lane carry (Ok turn.Quiet) new lane2 carry2 (idle, (x, quiet, reads)) untaken =
      as_read old.kept old.socket new.socket new.socket (Err x) idle.0 reads (inl refl)
  unless_taken stage.Up old lane carry (Ok turn.Busy) new lane2 carry2 (e, comes, refuses, kept, up, stays) untaken =
      as_come old.kept old.socket new.socket e comes
  unless_taken stage.Up old lane carry (Err f) new lane2 carry2 (mid, inl (stays, none, fails), ends, kept) untaken =
      as_failed old.kept old.socket new.socket f none fails
  unless_taken stage.Up old lane carry (Err f) new lane2 carry2 (mid, inr (e, s, comes, inl (stays, same, declines)), ends, kept) untaken =
      subst (λ (x : Socket S). IsAsRead remaining contents old.kept old.socket x) (sym same) (as_come old.kept old.socket s e comes)
  unless_taken stage.Up old lane carry (Err f) new lane2 carry2 (mid, inr (e, s, comes, inr (took, unanswered)), ends, kept) untaken =
      absurd (untaken e s comes (ends_begun (lane.trace ++ e ∷ []) _ mid lane2 new.stage (grows lane mid e took.0) ends))
  unless_taken (stage.Falling cuts) old lane carry (Ok turn.Busy) new lane2 carry2 (ends, at, kept, carried, same) untaken =
      as_before old.kept old.socket new.socket same
  unless_taken (stage.Falling cuts) old lane carry (Ok _) new lane2 carry2 h untaken = absurd h
  unless_taken (stage.Falling cuts) old lane carry (Err f) new lane2 carry2 (is, ends, at, kept, carried, same) untaken =
      as_before old.kept old.socket new.socket same
  unless_taken stage.Open old lane carry r new lane2 carry2 (is, same, stays) untaken =
      as_before old.kept old.socket new.socket (ap (λ (l : LinkState S). l.socket) same)
  unless_taken stage.Failed old lane carry r new lane2 carry2 (is, same, stays) untaken =
      as_before old.kept old.socket new.socket (ap (λ (l : LinkState S). l.socket) same)

  stream_quiet : (s : Stage) (old : LinkState S) (lane : Heard) (carry : Carried) (f : LinkFault) (new : LinkState S) (lane2 : Heard) (carry2 : Carried)
      → IsIdle remaining old.socket → old.kept ≡ None → f ≡ Stream → Turned remaining contents s old lane carry (Err f) new lane2 carry2 → new.socket.output ≡ []
  stream_quiet stage.Up old lane carry f new lane2 carry2 idle none is (mid, inl (stays, nokept, inl (x, reads, told, loud)), ends, kept) =
      fails_quietly remaining old.socket new.socket x idle (stream_is_io x (sym told ∙ is)) reads
  stream_quiet stage.Up old lane carry f new lane2 carry2 idle none is (mid, inl (stays, nokept, inr (inl (m, s, reads, closes, flushed, closed))), ends, kept) = absurd (cc)
  stream_quiet stage.Up old lane carry f new lane2 carry2 idle none is (mid, inl (stays, nokept, inr (inr (bs, m, reads, has, gives))), ends, kept) =
      absurd (reads_none remaining old.socket new.socket m idle reads)
  stream_quiet stage.Up old lane carry f new lane2 carry2 idle none is (mid, inr (next, s, comes, takes), ends, kept) =
      let read = subst (λ (k : Option Event). Comes remaining k old.socket next s) none comes in
      absurd (reads_none remaining old.socket s read.1 idle read.2)
  stream_quiet (stage.Falling cuts) old lane carry f new lane2 carry2 idle none is h = let closed = h.0 in absurd (cc)
  stream_quiet stage.Open old lane carry f new lane2 carry2 idle none is h = let closed = h.0 in absurd (cc)
  stream_quiet stage.Failed old lane carry f new lane2 carry2 idle none is h = let closed = h.0 in absurd (cc)

  pub leaves_nothing : (s : Stage) (old : LinkState S) (lane : Heard) (carry : Carried) (r : Result Turn LinkFault) (new : LinkState S) (lane2 : Heard) (carry2 : Carried)
      → IsIdle remaining old.socket → old.kept ≡ None → Turned remaining contents s old lane carry r new lane2 carry2 → r ≡ Err Stream → new.socket.output ≡ []
  leaves_nothing s old lane carry r new lane2 carry2 idle none h is =
      stream_quiet s old lane carry Stream new lane2 carry2 idle none refl (subst (λ (x : Result Turn LinkFault). Turned remaining contents s old lane carry x new lane2 carry2) is h)

  pub over_after : (s : Stage) (old : LinkState S) (lane : Heard) (carry : Carried) (f : LinkFault) (new : LinkState S) (lane2 : Heard) (carry2 : Carried)
      → s ≡ old.stage → Turned remaining contents s old lane carry (Err f) new lane2 carry2 → IsOver new.stage
  over_after stage.Up old lane carry f new lane2 carry2 is (mid, took, (e, ends, at), kept) = subst IsOver (sym at) (ended_over e)
  over_after (stage.Falling cuts) old lane carry f new lane2 carry2 is (closed, ends, at, kept, carried, same) = subst IsOver (sym at) tt
  over_after stage.Open old lane carry f new lane2 carry2 is (closed, same, stays) =
      subst IsOver (is ∙ ap (λ (l : LinkState S). l.stage) (sym same)) tt
  over_after stage.Failed old lane carry f new lane2 carry2 is (closed, same, stays) =
      subst IsOver (is ∙ ap (λ (l : LinkState S). l.stage) (sym same)) tt

  pub over_only_waits : (s : Stage) (old : LinkState S) (lane : Heard) (carry : Carried) (r : Result Turn LinkFault) (new : LinkState S) (lane2 : Heard) (carry2 : Carried)
      → IsOver s → Turned remaining contents s old lane carry r new lane2 carry2 → IfOk r (λ t. t ≡ turn.Busy)
  over_only_waits s old lane carry (Err f) new lane2 carry2 over h = tt
  over_only_waits stage.Up old lane carry (Ok t) new lane2 carry2 over h = absurd over
  over_only_waits (stage.Falling cuts) old lane carry (Ok turn.Busy) new lane2 carry2 over h = refl
  over_only_waits (stage.Falling cuts) old lane carry (Ok _) new lane2 carry2 over h = absurd h
  over_only_waits stage.Open old lane carry (Ok t) new lane2 carry2 over h = let is = h.0 in absurd (cc)
  over_only_waits stage.Failed old lane carry (Ok t) new lane2 carry2 over h = let is = h.0 in absurd (cc)

  -- a link that fell, whose lane may be cut
  pub falls_by_a_cut : (old : LinkState S) (lane : Heard) (carry : Carried) (r : Result Turn LinkFault) (new : LinkState S) (lane2 : Heard) (carry2 : Carried)
      → refusal lane.trace Cut ≡ None → Turned remaining contents (stage.Falling true) old lane carry r new lane2 carry2 → lane2.trace ≡ lane.trace ++ Cut ∷ []
  falls_by_a_cut old lane carry (Ok turn.Busy) new lane2 carry2 none (ends, at, kept, carried, same) = grows lane lane2 Cut (cuts_up lane lane2 _ none ends)
  falls_by_a_cut old lane carry (Ok _) new lane2 carry2 none h = absurd h
  falls_by_a_cut old lane carry (Err f) new lane2 carry2 none (closed, inl ends, at, kept, carried, same) = grows lane lane2 Cut (cuts_up lane lane2 _ none ends)
  falls_by_a_cut old lane carry (Err f) new lane2 carry2 none (closed, inr ends, at, kept, carried, same) = grows lane lane2 Cut (cuts_up lane lane2 _ none ends)
