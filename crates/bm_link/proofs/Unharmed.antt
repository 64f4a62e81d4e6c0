-- A lane that is up takes no second link.
use Rattle.std.proofs.Common.{◌≡◌, refl, sym, ◌∙◌, ap, subst, ℕ, Bool, true, false, ◌||◌, List, [], ◌∷◌, ◌++◌, Option, Some, None, Result, Ok, Err, inl, inr}
use Rattle.std.specs.Prelude.{if◌then◌else◌}
use Rattle.bm_session.proofs.Snoc.{snoc_induction}
use Rattle.bm_session.proofs.Pushed.{is_up-push, is_cut-push}
use Rattle.bm_session.proofs.Taken.{front-taken, no-second-up}
use Rattle.bm_session.specs.declared.event.Event.{Event}
use Rattle.bm_session.specs.declared.event.Event.TheVariants.{Up, In, Go, Stop, Cut, Down}
use Rattle.bm_session.specs.Trace.{Trace, is_up, is_cut, was_taken}
use Rattle.bm_lane.specs.Ends.{Heard}
use Rattle.bm_lane.specs.Hearing.{with_event}
use Rattle.bm_lane.specs.declared.refusals.HearRefusal.{HearRefusal}
use Rattle.bm_link.specs.declared.attaching.Attached.{Attached}
use Rattle.bm_link.specs.declared.credentials.Named.{Named}
use Rattle.bm_link.specs.declared.fault.LinkFault.{LinkFault}
use Rattle.bm_link.specs.declared.fault.LinkFault.TheVariants.{Closed}
use Rattle.bm_link.specs.declared.ending.Ended.{Ended}
use Rattle.bm_link.specs.declared.ending.Ended.TheVariants as ended
use Rattle.bm_link.specs.Attaching.{TakesUpFor, AttachesAs, Declined, cleared, taken_up, resumes}
use Rattle.bm_link.specs.Carries.{Carried}
use Rattle.bm_link.specs.Endings.{Ends}
use Rattle.bm_link.specs.Link.{LinkState}

or-false : (b : Bool) → (b || false) ≡ b
or-false true = refl
or-false false = refl

-- a lane that is up is not cut
pub up-not-cut : (t : Trace) → is_up t ≡ true → is_cut t ≡ false
up-not-cut = snoc_induction (λ t. is_up t ≡ true → is_cut t ≡ false) (λ h. refl) step
  where
    step : (t : Trace) (e : Event) → (is_up t ≡ true → is_cut t ≡ false) → is_up (t ++ e ∷ []) ≡ true → is_cut (t ++ e ∷ []) ≡ false
    step t Up ih h = is_cut-push t Up
    step t Down ih h = is_cut-push t Down
    step t Cut ih h = let d : is_up (t ++ Cut ∷ []) ≡ false = is_up-push t Cut in cc
    step t Go ih h = is_cut-push t Go ∙ or-false (is_cut t) ∙ ih (sym (is_up-push t Go ∙ or-false (is_up t)) ∙ h)
    step t (Stop k) ih h = is_cut-push t (Stop k) ∙ or-false (is_cut t) ∙ ih (sym (is_up-push t (Stop k) ∙ or-false (is_up t)) ∙ h)
    step t (In n b) ih h = is_cut-push t (In n b) ∙ or-false (is_cut t) ∙ ih (sym (is_up-push t (In n b) ∙ or-false (is_up t)) ∙ h)

-- where it is up nothing is cleared
stays-clear : (resumed : Bool) (lane : Heard) → is_up lane.trace ≡ true → cleared resumed lane ≡ lane
stays-clear resumed lane u = ap (λ b. if b then (if resumed then lane else with_event lane Down) else lane) (up-not-cut lane.trace u)

not-taken-up : (resumed : Bool) (lane : Heard) → is_up lane.trace ≡ true → was_taken (taken_up resumed lane).trace ≡ true → ⊥
not-taken-up resumed lane u w =
    no-second-up lane.trace u (subst (λ (l : Heard). was_taken (with_event l Up).trace ≡ true) (stays-clear resumed lane u) w)

-- it does not end as one that went up
not-ended : (cuts resumed : Bool) (lane lane2 : Heard) (e : Ended) → is_up lane.trace ≡ true → was_taken lane2.trace ≡ true → Ends cuts (taken_up resumed lane) lane2 e → ⊥
not-ended cuts resumed lane lane2 e u w (inl (m, cut, d)) =
    not-taken-up resumed lane u (front-taken (taken_up resumed lane).trace (Cut ∷ []) (subst (λ (l : Heard). was_taken l.trace ≡ true) d w))
not-ended cuts resumed lane lane2 ended.Cut u w (inr (n, f)) = f
not-ended cuts resumed lane lane2 ended.Down u w (inr (n, inl d)) =
    not-taken-up resumed lane u (front-taken (taken_up resumed lane).trace (Down ∷ []) (subst (λ (l : Heard). was_taken l.trace ≡ true) d w))
not-ended cuts resumed lane lane2 ended.Down u w (inr (n, inr (d, down))) =
    not-taken-up resumed lane u (subst (λ (l : Heard). was_taken l.trace ≡ true) d w)
not-ended cuts resumed lane lane2 ended.Waits u w (inr (n, (d, busy))) =
    not-taken-up resumed lane u (subst (λ (l : Heard). was_taken l.trace ≡ true) d w)

declined-same : (resumed : Bool) (lane lane2 : Heard) (why : HearRefusal) → is_up lane.trace ≡ true → Declined resumed lane lane2 why → lane2 ≡ lane
declined-same resumed lane lane2 why u (inl (e, cut, resumes, refuses)) = e
declined-same resumed lane lane2 why u (inr (e, refuses)) = e ∙ stays-clear resumed lane u

-- what a second link leaves: the lane and what it carries, and a fault
abbrev pub IsUnharmed : Heard → Carried → Result Attached LinkFault → Heard → Carried → Type 0
IsUnharmed lane carry r lane2 carry2 = (lane2 ≡ lane) × (carry2 ≡ carry) × ((f : LinkFault) × (r ≡ Err f))

module _ {S : Type 0} where
  pub unharmed : (contents : S → Option (List ℕ)) (login : Option Named) (link : LinkState S) (lane : Heard) (carry : Carried) (r : Result Attached LinkFault)
      (link2 : LinkState S) (lane2 : Heard) (carry2 : Carried)
      → is_up lane.trace ≡ true → was_taken lane2.trace ≡ true → TakesUpFor contents login link lane carry r link2 lane2 carry2
      → IsUnharmed lane carry r lane2 carry2
  unharmed contents None link lane carry r link2 lane2 carry2 u w (e, n, (l, c)) = (l, c, (Closed, e))
  unharmed contents (Some login) link lane carry (Ok a) link2 lane2 carry2 u w (((told, d, kept, sent), up), none) =
      absurd (not-taken-up (resumes lane.trace carry login.session) lane u (subst (λ (l : Heard). was_taken l.trace ≡ true) d w))
  unharmed contents (Some login) link lane carry (Err f) link2 lane2 carry2 u w (h, none) = go h
    where
      go : AttachesAs contents (resumes lane.trace carry login.session) login link.socket lane carry (Err (link2.stage, f)) link2.socket lane2 carry2 → IsUnharmed lane carry (Err f) lane2 carry2
      go (inl (failed, (why, d, is, told), c)) = (declined-same (resumes lane.trace carry login.session) lane lane2 why u d, c, (f, refl))
      go (inr ((e, ends, at), carried, unsent)) = absurd (not-ended _ (resumes lane.trace carry login.session) lane lane2 e u w ends)
