-- What the next link sends again of a link's orders.
use Rattle.std.proofs.Common.{◌≡◌, ◌≢◌, ◌∙◌, refl, sym, ap, subst, ℕ, Bool, true, false, List, [], ◌∷◌, ◌++◌, Option, Some, None, Result, Ok, Err}
use Rattle.std.specs.Prelude.{map}
use Rattle.tungstenite.specs.Socket.{Socket}
use Rattle.bm_session.specs.Trace.{commands, orders}
use Rattle.bm_work.specs.declared.sent.Sent.{Sent}
use Rattle.bm_lane.specs.Ends.{Heard}
use Rattle.bm_link.specs.declared.attaching.Attached.{Attached}
use Rattle.bm_link.specs.declared.attaching.Attached.TheVariants.{Resumed}
use Rattle.bm_link.specs.declared.credentials.Named.{Named}
use Rattle.bm_link.specs.declared.fault.LinkFault.{LinkFault}
use Rattle.bm_link.specs.declared.ending.Stage.{Stage}
use Rattle.bm_link.specs.declared.ending.Stage.TheVariants as stage
use Rattle.bm_link.specs.Attaching.{AttachesAs, SendsAll, SendsAttached, TakesUpFor, attached_as, login_bytes, resumes}
use Rattle.bm_link.specs.Carries.{Carried}
use Rattle.bm_link.specs.Link.{LinkState}
use Rattle.bm_link.specs.Orders.{Starts, start_bytes}
use Rattle.callers.specs.Link.{SendsAgain, SendsEach}

-- the order that a lane with this trace gives as it starts a command with these words
abbrev start_of : Heard → List (List ℕ) → Sent
start_of lane argv = record { seq = orders lane.trace; bytes = start_bytes (orders lane.trace) (commands lane.trace) argv }

not_resumed : (named : Option (List ℕ)) → attached_as false named ≢ Resumed
not_resumed None is = cc
not_resumed (Some s) is = cc

module _ {S : Type 0} (contents : S → Option (List ℕ)) where
  start_is_carried : (argv : List (List ℕ)) (s : Stage) (old : LinkState S) (lane : Heard) (carry : Carried) (k : ℕ) (new : LinkState S) (lane2 : Heard) (carry2 : Carried)
      → Starts contents argv s old lane carry (Ok k) new lane2 carry2 → carry2.orders ≡ carry.orders ++ start_of lane argv ∷ []
  start_is_carried argv stage.Up old lane carry k new lane2 carry2 (number, kept, sends) = ap (λ (c : Carried). c.orders) kept
  start_is_carried argv stage.Open old lane carry k new lane2 carry2 h = let is = h.0 in absurd (cc)
  start_is_carried argv (stage.Falling cuts) old lane carry k new lane2 carry2 h = let is = h.0 in absurd (cc)
  start_is_carried argv stage.Failed old lane carry k new lane2 carry2 h = let is = h.0 in absurd (cc)

  sends_carried : (resumed : Bool) (login : Named) (old : Socket S) (lane : Heard) (carry : Carried) (a : Attached) (new : Socket S) (lane2 : Heard) (carry2 : Carried)
      → a ≡ Resumed → AttachesAs contents resumed login old lane carry (Ok a) new lane2 carry2 → SendsAttached contents old login.seq Resumed carry.orders new
  sends_carried true login old lane carry a new lane2 carry2 is (answer, up, carries, sends) =
      subst (λ (os : List Sent). SendsAttached contents old login.seq Resumed os new) (ap (λ (c : Carried). c.orders) carries)
      (subst (λ (x : Attached). SendsAttached contents old login.seq x carry2.orders new) is sends)
  sends_carried false login old lane carry a new lane2 carry2 is (answer, up, carries, sends) = absurd (not_resumed login.session (sym answer ∙ is))

  attach_sends : (login : Named) (old : LinkState S) (lane : Heard) (carry : Carried) (r : Result Attached LinkFault) (new : LinkState S) (lane2 : Heard) (carry2 : Carried)
      → r ≡ Ok Resumed → TakesUpFor contents (Some login) old lane carry r new lane2 carry2 → SendsAttached contents old.socket login.seq Resumed carry.orders new.socket
  attach_sends login old lane carry (Err f) new lane2 carry2 is h = absurd (cc)
  attach_sends login old lane carry (Ok a) new lane2 carry2 is ((attaches, up), none) =
      sends_carried (resumes lane.trace carry login.session) login old.socket lane carry a new.socket lane2 carry2 (cc) attaches

  sends_each : (os : List Sent) (old new : Socket S) → SendsAll contents old os new → SendsEach contents old (map (λ (s : Sent). s.bytes) os) new
  sends_each [] old new same = same
  sends_each (o ∷ os) old new (mid, sent, more) = (mid, sent, sends_each os mid new more)

  attached_each : (n : ℕ) (os : List Sent) (old new : Socket S) → SendsAttached contents old n Resumed os new
      → SendsEach contents old (login_bytes n Resumed ∷ map (λ (s : Sent). s.bytes) os) new
  attached_each n os old new (mid, sent, more) = (mid, sent, sends_each os mid new more)

  -- an order that was given is sent again behind those before it
  pub sends_again : (argv : List (List ℕ)) (s : Stage) (old : LinkState S) (lane : Heard) (carry : Carried) (k : ℕ) (new : LinkState S) (lane2 : Heard) (carry2 : Carried)
      → Starts contents argv s old lane carry (Ok k) new lane2 carry2
      → (waits : Option Named) (next : LinkState S) (r : Result Attached LinkFault) (next2 : LinkState S) (lane3 : Heard) (carry3 : Carried)
      → TakesUpFor contents waits next lane2 carry2 r next2 lane3 carry3 → r ≡ Ok Resumed → (login : Named) → waits ≡ Some login
      → SendsAgain contents lane.trace carry.orders argv login.seq next.socket next2.socket
  sends_again argv s old lane carry k new lane2 carry2 started waits next r next2 lane3 carry3 attached is login waiting =
      let attaches = subst (λ (w : Option Named). TakesUpFor contents w next lane2 carry2 r next2 lane3 carry3) waiting attached in
      let sends = attach_sends login next lane2 carry2 r next2 lane3 carry3 is attaches in (
        start_of lane argv,
        refl,
        refl,
        attached_each login.seq (carry.orders ++ start_of lane argv ∷ []) next.socket next2.socket
            (subst (λ (os : List Sent). SendsAttached contents next.socket login.seq Resumed os next2.socket)
            (start_is_carried argv s old lane carry k new lane2 carry2 started) sends),
      )
