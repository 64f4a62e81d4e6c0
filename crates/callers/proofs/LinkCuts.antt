-- A turn that fails cuts its lane.
use Rattle.std.proofs.Common.{◌≡◌, ◌≢◌, ◌∙◌, refl, sym, ap, subst, inl, inr, ℕ, ◌+◌, ◌<◌, Bool, true, false, not, ◌&&◌, ◌||◌, List, [], ◌∷◌, ◌++◌, length, append-nil, Option, Some, None, Result, Ok, Err, arith, lit≤}
use Rattle.std.specs.Prelude.{◌≤◌, IfErr, is_some, nat_le}
use Rattle.std.proofs.lemmas.Bool.Decides.{nat_tests}
use Rattle.std.proofs.lemmas.List.{length-append}
use Rattle.bm_session.specs.declared.event.Event.{Event}
use Rattle.bm_session.specs.declared.event.Event.TheVariants.{Cut, Down, Go, In, Stop, Up}
use Rattle.bm_session.specs.declared.refusal.Refusal.TheVariants.{Full, NotUp}
use Rattle.bm_session.specs.declared.reply.Reply.TheVariants.{Answer}
use Rattle.bm_session.specs.declared.reply.Verdict.{Verdict}
use Rattle.bm_session.specs.Trace.{Trace, first_reason, full, is_up, reason_if, refusal, reply}
use Rattle.bm_session.proofs.Pushed.{is_up-push}
use Rattle.bm_lane.specs.Ends.{Heard}
use Rattle.bm_link.specs.declared.fault.LinkFault.{LinkFault}
use Rattle.bm_link.specs.declared.fault.LinkFault.TheVariants.{BadMessage}
use Rattle.bm_link.specs.declared.ending.Stage.{Stage}
use Rattle.bm_link.specs.declared.ending.Stage.TheVariants as stage
use Rattle.bm_link.specs.declared.turn.Turn.{Turn}
use Rattle.bm_link.specs.Carries.{Carried, answered_by, carried_after, is_bad, may_cut, noted}
use Rattle.bm_link.specs.Endings.{EndsAt}
use Rattle.bm_link.specs.Link.{LinkState, Turned}
use Rattle.callers.specs.Link.{EndsCut}
use Rattle.callers.proofs.LinkTurns.{cuts_up, grows}

-- a lane that is up, and has had not too many events, takes a Cut
takes_a_cut : (t : Trace) → is_up t ≡ true → length t < 999999 → refusal t Cut ≡ None
takes_a_cut t up few =
    let room : nat_le 999999 (length t) ≡ false = grind (arith, nat_tests) in
    ap (λ (b : Bool). first_reason (reason_if (not b) NotUp) (full t Cut)) up ∙ ap (λ (b : Bool). reason_if b Full) room

-- an event that is answered leaves the lane up
stays_up : (t : Trace) (e : Event) (n : ℕ) (v : Verdict) → reply t e ≡ Answer n v → is_up t ≡ true → is_up (t ++ e ∷ []) ≡ true
stays_up t (In m body) n v answers up = is_up-push t (In m body) ∙ ap (λ (b : Bool). b || false) up
stays_up t Up n v answers up = absurd (cc)
stays_up t Down n v answers up = absurd (cc)
stays_up t Cut n v answers up = absurd (cc)
stays_up t Go n v answers up = absurd (cc)
stays_up t (Stop k) n v answers up = absurd (cc)

not_bad : (f : LinkFault) → f ≢ BadMessage → is_bad f ≡ false
not_bad BadMessage good = absurd (good refl)
not_bad _ good = refl

noted_text : (carry : Carried) (n : Option ℕ) → (noted carry n).text ≡ carry.text
noted_text carry None = refl
noted_text carry (Some n) = refl

-- after this fault the lane may be cut
may_be_cut : (carry carry2 : Carried) (f : LinkFault) → is_some carry.text ≡ true → carry2.text ≡ carry.text → f ≢ BadMessage → may_cut carry2 f ≡ true
may_be_cut carry carry2 f named same good =
    ap (λ (b : Bool). is_some carry2.text && not b) (not_bad f good) ∙ ap (λ (t : Option (List ℕ)). is_some t && true) same ∙ ap (λ (b : Bool). b && true) named

ends_cut : (lane mid lane2 : Heard) (took : Trace) (s : Stage) → length took ≤ 1 → mid.trace ≡ lane.trace ++ took → is_up mid.trace ≡ true → length mid.trace < 999999
    → EndsAt true mid lane2 s → EndsCut lane.trace lane2.trace
ends_cut lane mid lane2 took s one grown up few (e, ends, at) =
    (took, one, grows mid lane2 Cut (cuts_up mid lane2 e (takes_a_cut mid.trace up few) ends) ∙ ap (λ (t : Trace). t ++ Cut ∷ []) grown)

untaken_cut : (lane mid lane2 : Heard) (s : Stage) → mid ≡ lane → is_up lane.trace ≡ true → length lane.trace < 999998
    → EndsAt true mid lane2 s → EndsCut lane.trace lane2.trace
untaken_cut lane mid lane2 s same up few ends =
    let trace : mid.trace ≡ lane.trace = ap (λ (l : Heard). l.trace) same in
    let count : length mid.trace ≡ length lane.trace = ap length trace in
    ends_cut lane mid lane2 [] s (lit≤ tt) (trace ∙ sym (append-nil lane.trace)) (ap is_up trace ∙ up) (omega (arith, few, count)) ends

taken_cut : (lane mid lane2 : Heard) (e : Event) (s : Stage) → mid.trace ≡ lane.trace ++ e ∷ [] → is_up (lane.trace ++ e ∷ []) ≡ true → length lane.trace < 999998
    → EndsAt true mid lane2 s → EndsCut lane.trace lane2.trace
taken_cut lane mid lane2 e s trace up few ends =
    let count : length mid.trace ≡ length lane.trace + 1 = ap length trace ∙ length-append lane.trace (e ∷ []) in
    ends_cut lane mid lane2 (e ∷ []) s (lit≤ tt) trace (ap is_up trace ∙ up) (omega (arith, few, count)) ends

module _ {S : Type 0} (remaining contents : S → Option (List ℕ)) where
  fails_with_a_cut : (s : Stage) (old : LinkState S) (lane : Heard) (carry : Carried) (f : LinkFault) (new : LinkState S) (lane2 : Heard) (carry2 : Carried)
      → s ≡ stage.Up → is_some carry.text ≡ true → is_up lane.trace ≡ true → length lane.trace < 999998 → f ≢ BadMessage
      → Turned remaining contents s old lane carry (Err f) new lane2 carry2 → EndsCut lane.trace lane2.trace
  fails_with_a_cut stage.Up old lane carry f new lane2 carry2 is named up few good (mid, inl ((same, carried), none, fails), ends, kept) =
      let may = may_be_cut carry carry2 f named (ap (λ (c : Carried). c.text) carried) good in
      untaken_cut lane mid lane2 new.stage same up few (subst (λ (b : Bool). EndsAt b mid lane2 new.stage) may ends)
  fails_with_a_cut stage.Up old lane carry f new lane2 carry2 is named up few good (mid, inr (e, s, comes, inl ((same, carried), left, declines)), ends, kept) =
      let may = may_be_cut carry carry2 f named (ap (λ (c : Carried). c.text) carried) good in
      untaken_cut lane mid lane2 new.stage same up few (subst (λ (b : Bool). EndsAt b mid lane2 new.stage) may ends)
  fails_with_a_cut stage.Up old lane carry f new lane2 carry2 is named up few good (mid, inr (e, s, comes, inr ((grown, carried), (n, v, answers, unsent))), ends, kept) =
      let may = may_be_cut carry carry2 f named (ap (λ (c : Carried). c.text) carried ∙ noted_text carry (answered_by e)) good in
      taken_cut lane mid lane2 e new.stage (grows lane mid e grown) (stays_up lane.trace e n v answers up) few
      (subst (λ (b : Bool). EndsAt b mid lane2 new.stage) may ends)
  fails_with_a_cut stage.Open old lane carry f new lane2 carry2 is named up few good h = absurd (cc)
  fails_with_a_cut (stage.Falling cuts) old lane carry f new lane2 carry2 is named up few good h = absurd (cc)
  fails_with_a_cut stage.Failed old lane carry f new lane2 carry2 is named up few good h = absurd (cc)

  pub turn_cuts : (s : Stage) (old : LinkState S) (lane : Heard) (carry : Carried) (r : Result Turn LinkFault) (new : LinkState S) (lane2 : Heard) (carry2 : Carried)
      → s ≡ stage.Up → is_some carry.text ≡ true → is_up lane.trace ≡ true → length lane.trace < 999998
      → Turned remaining contents s old lane carry r new lane2 carry2 → IfErr r (λ f. f ≢ BadMessage → EndsCut lane.trace lane2.trace)
  turn_cuts s old lane carry (Ok t) new lane2 carry2 is named up few h = tt
  turn_cuts s old lane carry (Err f) new lane2 carry2 is named up few h = λ good. fails_with_a_cut s old lane carry f new lane2 carry2 is named up few good h
