-- What the calls of a session do, by what they do to its parts.
use Rattle.std.proofs.Common.{◌≡◌, refl, sym, ap, ◌∙◌, subst, ℕ, suc, Bool, List, [], ◌∷◌, length, drop, arith, Option, Some, Result}
use Rattle.bm_work.specs.Core.{Core}
use Rattle.bm_work.specs.declared.act.WorkAct.{WorkAct}
use Rattle.bm_work.specs.declared.sent.Sent.{Sent}
use Rattle.bm_outbox.specs.declared.outbox_entry.OutboxEntry.{OutboxEntry}
use Rattle.bm_link.specs.Working.{PingsAt, WorkState, Worked}
use Rattle.bm_link.specs.declared.fault.LinkFault.{LinkFault}
use Rattle.bm_link.specs.declared.turn.Turn.{Turn}
use Rattle.bm_worker_session.specs.Sessions.{HandsOver, HearsBy, PingsBy, SendsNext, SessionState, TellsOn, answer_of_sending}
use Rattle.bm_worker_session.specs.declared.session_fault.SessionFault.{SessionFault}

none-left : (xs rest : List Sent) → xs ≡ rest → rest ≡ drop 1 xs → xs ≡ []
none-left [] rest is dropped = refl
none-left (x ∷ xs) rest is dropped = let e : suc (length xs) ≡ length xs = ap length (is ∙ dropped) in absurd (omega arith)

module _ {S : Type 0} (core : Core) (outbox : List OutboxEntry) (backlog : List Sent) (link : WorkState S) where
  -- a session whose link is up
  abbrev pub Up : SessionState S
  Up = record { core = core; outbox = outbox; backlog = backlog; link = Some link }

  abbrev pub up : Option (WorkState S) → SessionState S
  up l = record { core = core; outbox = outbox; backlog = backlog; link = l }

  pub heard : (remaining contents : S → Option (List ℕ)) (old : SessionState S) (core2 : Core) (link2 : WorkState S) (r : Result (Turn × WorkAct) LinkFault)
      → old ≡ Up → Worked remaining contents link.failed link core r link2 core2 → link2.named ≡ link.named
      → HearsBy remaining contents old.link old r (record { core = core2; outbox = outbox; backlog = backlog; link = Some link2 })
  heard remaining contents old core2 link2 r e worked named =
      subst (λ (o : SessionState S). HearsBy remaining contents o.link o r (record { core = core2; outbox = outbox; backlog = backlog; link = Some link2 })) (sym e)
      (core2, link2, worked, named, refl)

  pub pinged : (contents : S → Option (List ℕ)) (old : SessionState S) (link2 : WorkState S) (r : Result (Unit {0}) LinkFault) → old ≡ Up
      → PingsAt contents link.failed link r link2 → link2.named ≡ link.named
      → PingsBy contents old.link old r (record { core = core; outbox = outbox; backlog = backlog; link = Some link2 })
  pinged contents old link2 r e pings named =
      subst (λ (o : SessionState S). PingsBy contents o.link o r (record { core = core; outbox = outbox; backlog = backlog; link = Some link2 })) (sym e)
      (link2, pings, named, refl)

  pub told : (contents : S → Option (List ℕ)) (old : SessionState S) (rest : List Sent) (core2 : Core) (outbox2 : List OutboxEntry) (link2 : WorkState S)
      (r : Result Bool SessionFault) → old ≡ Up → backlog ≡ rest → rest ≡ drop 1 backlog → TellsOn contents core outbox link r core2 outbox2 link2
      → SendsNext contents old.backlog old.link old r (record { core = core2; outbox = outbox2; backlog = rest; link = Some link2 })
  told contents old rest core2 outbox2 link2 r e is dropped tells =
      let none : backlog ≡ [] = none-left backlog rest is dropped in
      subst (λ (o : SessionState S). SendsNext contents o.backlog o.link o r (record { core = core2; outbox = outbox2; backlog = rest; link = Some link2 })) (sym e)
      (subst (λ (b : List Sent). SendsNext contents b (Some link) Up r (record { core = core2; outbox = outbox2; backlog = rest; link = Some link2 })) (sym none)
      (link2, tells, sym is ∙ none, refl))

  pub sent_again : (contents : S → Option (List ℕ)) (old : SessionState S) (request : Sent) (rest : List Sent) (link2 : WorkState S) (sent : Bool)
      (r : Result Bool SessionFault) → old ≡ Up → backlog ≡ request ∷ rest → HandsOver contents (request ∷ []) link sent link2 → r ≡ answer_of_sending sent
      → SendsNext contents old.backlog old.link old r (record { core = core; outbox = outbox; backlog = rest; link = Some link2 })
  sent_again contents old request rest link2 sent r e is hands answer =
      subst (λ (o : SessionState S). SendsNext contents o.backlog o.link o r (record { core = core; outbox = outbox; backlog = rest; link = Some link2 })) (sym e)
      (subst (λ (b : List Sent). SendsNext contents b (Some link) Up r (record { core = core; outbox = outbox; backlog = rest; link = Some link2 })) (sym is)
      (link2, sent, hands, answer, refl))
