-- Each call keeps what the link was handed in step with the core.
use Rattle.std.proofs.Common.{◌≡◌, refl, sym, ap, ◌∙◌, subst, ℕ, ◌+◌, ◌≤◌, Bool, true, false, List, [], ◌∷◌, ◌++◌, length, drop, append_assoc, append-nil, arith, Option, Some, None, Result, Ok, Err}
use Rattle.std.specs.declared.alloc.AllocError.{AllocError}
use Rattle.std.proofs.lemmas.List.{drop-append-le, drop_all, length-append}
use Rattle.bm_work.specs.Core.{Core, unanswered_requests}
use Rattle.bm_work.specs.Stream.{Report, stream, stream_from}
use Rattle.bm_work.specs.declared.sent.Sent.{Sent}
use Rattle.bm_outbox.specs.Telling.{TellsNext}
use Rattle.bm_outbox.specs.declared.progress.Progress.{Progress}
use Rattle.bm_outbox.specs.declared.progress.Progress.TheVariants as progress
use Rattle.bm_link.specs.Working.{WorkState}
use Rattle.bm_worker_session.specs.Sessions.{HandsOver, HearsBy, SendsNext, SessionState, answer_of, answer_of_sending, requests_of}
use Rattle.bm_worker_session.specs.Laws.{BeginsAnewInStep, BeginsInStep, HearsInStep, InStep, SendsInStep}
use Rattle.bm_worker_session.proofs.Growing.{Grows, length-stream, next_grows, streams_join, turn_same}

-- nothing was reported since
nothing-new : (c : Core) → drop (length c.reports) (stream c.reports) ≡ []
nothing-new c = drop_all (length c.reports) (stream c.reports) (let e : length (stream c.reports) ≡ length c.reports = length-stream 0 c.reports in omega arith)

-- what was reported since grew by the requests that were told
since-grows : (first : ℕ) (handed : List Sent) (c c2 : Core) → first ≤ length c.reports → Grows c handed c2
    → drop first (stream c.reports) ++ handed ≡ drop first (stream c2.reports)
since-grows first handed c c2 since (rs, is, told, answered) =
    let from : 0 + length c.reports ≡ length c.reports = omega arith in
    let long : length (stream c.reports) ≡ length c.reports = length-stream 0 c.reports in
    let joined : stream c2.reports ≡ stream c.reports ++ handed =
    ap stream is ∙ (streams_join 0 c.reports rs ∙ ap (λ more. stream c.reports ++ more) (ap (λ n. stream_from n rs) from ∙ sym told)) in
    sym (ap (drop first) joined ∙ drop-append-le first (stream c.reports) handed (omega arith))

module _ {S : Type 0} where
  -- what is told is handed over behind all that was sent
  tells-in-step : (resumed sent handed : List Sent) (first : ℕ) (old new : SessionState S) → old.backlog ≡ [] → new.backlog ≡ [] → Grows old.core handed new.core
      → InStep resumed first sent old → InStep resumed first (sent ++ handed) new
  tells-in-step resumed sent handed first old new none none2 grows i = record {
    since =
        (let longer : length new.core.reports ≡ length old.core.reports + length grows.0 = ap length grows.1 ∙ length-append old.core.reports grows.0 in
        let since : first ≤ length old.core.reports = i.since in
        omega arith);
    in_order =
        ap (λ b. (sent ++ handed) ++ b) none2
        ∙ (append-nil (sent ++ handed)
        ∙ (ap (λ s. s ++ handed) (sym (append-nil sent) ∙ (ap (λ b. sent ++ b) (sym none) ∙ i.in_order))
        ∙ (append_assoc resumed (drop first (stream old.core.reports)) handed
        ∙ ap (λ d. resumed ++ d) (since-grows first handed old.core new.core i.since grows))));
  }

  -- the next of the backlog is handed over
  again-in-step : (resumed sent rest : List Sent) (request : Sent) (first : ℕ) (link2 : WorkState S) (old new : SessionState S) → old.backlog ≡ request ∷ rest
      → new ≡ record old { backlog = rest; link = Some link2 } → InStep resumed first sent old → InStep resumed first (sent ++ request ∷ []) new
  again-in-step resumed sent rest request first link2 old new waits is i =
      subst (InStep resumed first (sent ++ request ∷ [])) (sym is)
      (record { since = i.since; in_order = append_assoc sent (request ∷ []) rest ∙ (ap (λ b. sent ++ b) (sym waits) ∙ i.in_order) })

  pub begins : (contents : S → Option (List ℕ)) → BeginsInStep contents
  begins contents link old new is =
      subst (InStep (unanswered_requests old.core) (length old.core.reports) []) (sym is)
      (record {
        since = omega arith;
        in_order = sym (ap (λ d. unanswered_requests old.core ++ d) (nothing-new old.core) ∙ append-nil (unanswered_requests old.core));
      })

  pub begins_anew : (contents : S → Option (List ℕ)) → BeginsAnewInStep contents
  begins_anew contents link old new is = subst (InStep [] 0 []) (sym is) (record { since = omega arith; in_order = refl })

  -- all that was told was sent, where no fault is answered
  all-sent : (contents : S → Option (List ℕ)) (some : Bool) (p : Progress) (sent : Bool) (old new : WorkState S) → HandsOver contents (requests_of (Ok p)) old sent new
      → Ok some ≡ answer_of (Ok p) sent → sent ≡ true
  all-sent contents some progress.Nothing sent old new h is = h.0
  all-sent contents some progress.Full sent old new h is = h.0
  all-sent contents some progress.Passed sent old new h is = h.0
  all-sent contents some (progress.Text s) true old new h is = refl
  all-sent contents some (progress.Text s) false old new h is = cc
  all-sent contents some (progress.End v) true old new h is = refl
  all-sent contents some (progress.End v) false old new h is = cc

  -- what a call handed over, in step
  abbrev HandsInStep : (S → Option (List ℕ)) → List Sent → List Sent → ℕ → WorkState S → SessionState S → Type 0
  HandsInStep contents resumed sent first link new = (handed : List Sent) × (link2 : WorkState S) × (new.link ≡ Some link2) × HandsOver contents handed link true link2
      × InStep resumed first (sent ++ handed) new

  pub sends : (contents : S → Option (List ℕ)) → SendsInStep contents
  sends contents resumed sent first link old new some at h i = go old.backlog old.link refl at h
    where
      again : (request : Sent) (rest : List Sent) (l link2 : WorkState S) (done : Bool) → old.backlog ≡ request ∷ rest → l ≡ link
          → HandsOver contents (request ∷ []) l done link2 → Ok some ≡ answer_of_sending done → new ≡ record old { backlog = rest; link = Some link2 } → HandsInStep contents resumed sent first link new
      again request rest l link2 true waits same hands ok is = (
        request ∷ [],
        link2,
        ap (λ (w : SessionState S). w.link) is,
        subst (λ (x : WorkState S). HandsOver contents (request ∷ []) x true link2) same hands,
        again-in-step resumed sent rest request first link2 old new waits is i,
      )
      again request rest l link2 false waits same hands ok is = cc

      on : (l link2 : WorkState S) (p : Result Progress AllocError) (done : Bool) → old.backlog ≡ [] → l ≡ link
          → TellsNext old.outbox old.core p new.outbox new.core → HandsOver contents (requests_of p) l done link2 → Ok some ≡ answer_of p done → new.backlog ≡ []
          → new.link ≡ Some link2 → HandsInStep contents resumed sent first link new
      on l link2 (Ok p) done none same tells hands ok none2 at2 = (
        requests_of (Ok p),
        link2,
        at2,
        subst (λ (b : Bool). HandsOver contents (requests_of (Ok p)) link b link2) (all-sent contents some p done l link2 hands ok)
            (subst (λ (x : WorkState S). HandsOver contents (requests_of (Ok p)) x done link2) same hands),
        tells-in-step resumed sent (requests_of (Ok p)) first old new none none2 (next_grows old.outbox new.outbox old.core new.core p tells) i,
      )
      on l link2 (Err e) done none same tells hands ok none2 at2 = cc

      go : (b : List Sent) (o : Option (WorkState S)) → old.backlog ≡ b → o ≡ Some link → SendsNext contents b o old (Ok some) new → HandsInStep contents resumed sent first link new
      go (request ∷ rest) (Some l) waits is (link2, done, hands, ok, new_is) = again request rest l link2 done waits (cc) hands ok new_is
      go [] (Some l) waits is (link2, (p, tells, (done, hands, ok)), none, at2) = on l link2 p done waits (cc) tells hands ok none at2
      go (request ∷ rest) None waits is h = cc
      go [] None waits is h = cc

  pub hears : (remaining contents : S → Option (List ℕ)) → HearsInStep remaining contents
  hears remaining contents resumed sent first old new r h i = go old.link h
    where
      go : (o : Option (WorkState S)) → HearsBy remaining contents o old r new → InStep resumed first sent new
      go (Some link) (core, link2, worked, named, is) =
          let same : core.reports ≡ old.core.reports = turn_same remaining contents link.failed link link2 old.core core r worked in
          subst (InStep resumed first sent) (sym is)
          (record {
            since = subst (λ (rs : List Report). first ≤ length rs) (sym same) i.since;
            in_order = i.in_order ∙ ap (λ rs. resumed ++ drop first (stream rs)) (sym same);
          })
      go None (e, is) = subst (InStep resumed first sent) (sym is) i
