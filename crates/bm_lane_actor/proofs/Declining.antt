-- A lane that is up takes no second link.
use Rattle.std.proofs.Common.{◌≡◌, subst, ℕ, true, List, Option, Result, Err}
use Rattle.bm_session.specs.Trace.{is_up, was_taken}
use Rattle.bm_lane.specs.Ends.{Heard}
use Rattle.bm_link.proofs.Unharmed.{IsUnharmed, unharmed}
use Rattle.bm_link.specs.declared.attaching.Attached.{Attached}
use Rattle.bm_link.specs.declared.fault.LinkFault.{LinkFault}
use Rattle.bm_link.specs.Attaching.{TakesUpFor}
use Rattle.bm_link.specs.Carries.{Carried}
use Rattle.bm_link.specs.Link.{LinkState}
use Rattle.bm_lane_actor.specs.LaneStates.{Declines}

module _ {S : Type 0} where
  pub declined : (contents : S → Option (List ℕ)) (link : LinkState S) (lane : Heard) (resume_state : Carried) (r : Result Attached LinkFault)
      (link2 : LinkState S) (lane2 : Heard) (resume_state2 : Carried)
      → is_up lane.trace ≡ true → was_taken lane2.trace ≡ true → TakesUpFor contents link.login link lane resume_state r link2 lane2 resume_state2
      → IsUnharmed lane resume_state r lane2 resume_state2
  declined contents link lane resume_state r link2 lane2 resume_state2 up taken h = unharmed contents link.login link lane resume_state r link2 lane2 resume_state2 up taken h

  -- the fault that it answers is the one by which the link didn't take the lane up
  pub declines : (contents : S → Option (List ℕ)) (link : LinkState S) (lane : Heard) (resume_state : Carried) (r : Result Attached LinkFault) (f : LinkFault)
      (link2 : LinkState S) (lane2 : Heard) (resume_state2 : Carried)
      → r ≡ Err f → is_up lane.trace ≡ true → was_taken lane2.trace ≡ true
      → TakesUpFor contents link.login link lane resume_state r link2 lane2 resume_state2
      → Declines contents link lane resume_state f
  declines contents link lane resume_state r f link2 lane2 resume_state2 e up taken h =
      let same = unharmed contents link.login link lane resume_state r link2 lane2 resume_state2 up taken h in (
        link2,
        subst (λ (x : Heard). TakesUpFor contents link.login link lane resume_state (Err f) link2 x resume_state) same.0
            (subst (λ (x : Carried). TakesUpFor contents link.login link lane resume_state (Err f) link2 lane2 x) same.1
            (subst (λ (x : Result Attached LinkFault). TakesUpFor contents link.login link lane resume_state x link2 lane2 resume_state2) e h)),
      )
