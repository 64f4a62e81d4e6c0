-- What calls do at the stage at which they do something.
use Rattle.std.proofs.Common.{◌≡◌, ◌≢◌, ◌∙◌, ◌⊎◌, sym, ap, subst, inl, inr, Bool, true, List, ℕ, Option, Some, None, Ok, Err}
use Rattle.tungstenite.specs.Content.{Content, binary}
use Rattle.tungstenite.specs.Socket.{Socket}
use Rattle.bm_session.specs.declared.event.Event.TheVariants.{Cut, Go, Stop}
use Rattle.bm_session.specs.Trace.{Trace, orders, commands}
use Rattle.bm_lane.specs.Ends.{Heard}
use Rattle.bm_lane.specs.Hearing.{with_event}
use Rattle.bm_link.specs.declared.attaching.Attached.{Attached}
use Rattle.bm_link.specs.declared.credentials.Named.{Named}
use Rattle.bm_link.specs.declared.fault.LinkFault.{LinkFault}
use Rattle.bm_link.specs.declared.ending.Ended.{Ended}
use Rattle.bm_link.specs.declared.ending.Ended.TheVariants as ended
use Rattle.bm_link.specs.declared.ending.Stage.{Stage}
use Rattle.bm_link.specs.declared.ending.Stage.TheVariants as stage
use Rattle.bm_link.specs.declared.user.User.{User}
use Rattle.bm_link.specs.Attaching.{Attaches, TakesUpFor}
use Rattle.bm_link.specs.Carries.{Carried, may_cut, with_order}
use Rattle.bm_link.specs.Causes.{IsUnsent}
use Rattle.bm_link.specs.Endings.{Ends, EndsAt, Falls, FallsAt, stage_after}
use Rattle.bm_link.specs.Link.{LinkState, TookAtMost, Turned}
use Rattle.bm_link.specs.Logins.{Admits, FailsToLogIn, LogsInAt}
use Rattle.bm_link.specs.Orders.{Starts, Interrupts, Unsent, UnsentAndCut, UnsentAndUncut, start_bytes, interrupt_bytes, with_start, with_interrupt}

-- an end under other names
pub ends_at : (cuts cuts2 : Bool) (mid mid2 lane2 : Heard) (e : Ended) (s : Stage) → cuts ≡ cuts2 → mid ≡ mid2
    → Ends cuts mid lane2 e → s ≡ stage_after e → EndsAt cuts2 mid2 lane2 s
ends_at cuts cuts2 mid mid2 lane2 e s c m h at =
    (e, subst (λ (x : Bool). Ends x mid2 lane2 e) c (subst (λ (x : Heard). Ends cuts x lane2 e) m h), at)

-- an end that is no cut, under other names
pub falls_at : (cuts cuts2 : Bool) (mid mid2 lane2 : Heard) (e : Ended) (s : Stage) → cuts ≡ cuts2 → mid ≡ mid2 → e ≢ ended.Cut
    → Ends cuts mid lane2 e → s ≡ stage_after e → FallsAt cuts2 mid2 lane2 s
falls_at cuts cuts2 mid mid2 lane2 e s c m uncut h at =
    elim (subst (λ (x : Bool). Ends x mid2 lane2 e) c (subst (λ (x : Heard). Ends cuts x lane2 e) m h)) [
      | inl cut ↦ absurd (uncut cut.1)
      | inr falls ↦ (e, falls.0, falls.1, at)
    ]

pub fallen_is_no_cut : (e : Ended) → (e ≡ ended.Down) ⊎ (e ≡ ended.Waits) → e ≢ ended.Cut
fallen_is_no_cut e fallen cut = elim fallen [ inl down ↦ cc | inr waits ↦ cc ]

-- an end that is a cut
pub cut_of : (cuts : Bool) (mid lane2 : Heard) (e : Ended) → Ends cuts mid lane2 e → e ≡ ended.Cut → (cuts ≡ true) × (lane2 ≡ with_event mid Cut)
cut_of cuts mid lane2 e h is =
    elim h [
      | inl cut ↦ (cut.0, cut.2)
      | inr falls ↦ absurd (subst (λ (x : Ended). Falls mid lane2 x) is falls.1)
    ]

-- the order of a start by other numbers
pub start_kept : (t : Trace) (argv : List (List ℕ)) (carry carry2 : Carried) (n k : ℕ) → carry2 ≡ with_order carry (record { seq = n; bytes = start_bytes n k argv })
    → n ≡ orders t → k ≡ commands t → carry2 ≡ with_start t argv carry
start_kept t argv carry carry2 n k kept order command =
    kept
    ∙ (ap (λ (x : ℕ). with_order carry (record { seq = x; bytes = start_bytes x k argv })) order
    ∙ ap (λ (x : ℕ). with_order carry (record { seq = orders t; bytes = start_bytes (orders t) x argv })) command)

module _ {S : Type 0} where
  -- the same, where it is not sent
  pub start_unsent : (contents : S → Option (List ℕ)) (old mid new : Socket S) (w : Content) (argv : List (List ℕ)) (n k n2 k2 : ℕ) (f : LinkFault)
      → w ≡ binary (start_bytes n k argv) → n ≡ n2 → k ≡ k2 → ((bs : List ℕ) → w ≡ binary bs → IsUnsent contents bs old f mid) → new ≡ mid
      → IsUnsent contents (start_bytes n2 k2 argv) old f new
  start_unsent contents old mid new w argv n k n2 k2 f is order command u same =
      subst (λ (s : Socket S). IsUnsent contents (start_bytes n2 k2 argv) old f s) (sym same) (
      u (start_bytes n2 k2 argv) (is ∙ (ap (λ (x : ℕ). binary (start_bytes x k argv)) order ∙ ap (λ (x : ℕ). binary (start_bytes n2 x argv)) command))
      )

  -- a link that is up failed, and its lane ended, which leaves the socket as it was
  pub turn_fails : (remaining contents : S → Option (List ℕ)) (old : LinkState S) (lane : Heard) (carry : Carried) (f : LinkFault) (heard new : LinkState S) (mid lane2 : Heard)
      (carry2 : Carried) (cuts : Bool) (e : Ended) → old.stage ≡ stage.Up → TookAtMost remaining contents old lane carry f heard.socket mid carry2 → new.socket ≡ heard.socket
      → cuts ≡ may_cut carry2 f → Ends cuts mid lane2 e → new.stage ≡ stage_after e → new.kept ≡ None
      → Turned remaining contents old.stage old lane carry (Err f) new lane2 carry2
  turn_fails remaining contents old lane carry f heard new mid lane2 carry2 cuts e up took same is ends at none =
      subst (λ (x : Stage). Turned remaining contents x old lane carry (Err f) new lane2 carry2) (sym up) (
        mid,
        subst (λ (s : Socket S). TookAtMost remaining contents old lane carry f s mid carry2) (sym same) took,
        (e, subst (λ (x : Bool). Ends x mid lane2 e) is ends, at),
        none,
      )

  pub logs_in : (remaining contents : S → Option (List ℕ)) (users : List User) (old : LinkState S) (place : ℕ) (named : Named) (new : LinkState S)
      → old.stage ≡ stage.Open → old.login ≡ None → Admits remaining users old.socket place named new.socket → new.login ≡ Some named → new.stage ≡ stage.Open
      → new.refused ≡ old.refused → LogsInAt remaining contents users old.stage old.login old (Ok place) new
  logs_in remaining contents users old place named new is-open fresh a l s same =
      subst (λ (x : Stage). LogsInAt remaining contents users x old.login old (Ok place) new) (sym is-open) (
      subst (λ (x : Option Named). LogsInAt remaining contents users stage.Open x old (Ok place) new) (sym fresh) (named, a, l, s, same)
      )

  pub fails_to_log_in : (remaining contents : S → Option (List ℕ)) (users : List User) (old : LinkState S) (f : LinkFault) (new : LinkState S)
      → old.stage ≡ stage.Open → old.login ≡ None → new.stage ≡ stage.Failed → new.login ≡ None → FailsToLogIn remaining contents users old f new
      → LogsInAt remaining contents users old.stage old.login old (Err f) new
  fails_to_log_in remaining contents users old f new is-open fresh s l why =
      subst (λ (x : Stage). LogsInAt remaining contents users x old.login old (Err f) new) (sym is-open) (
      subst (λ (x : Option Named). LogsInAt remaining contents users stage.Open x old (Err f) new) (sym fresh) (s, l, why)
      )

  pub takes_up : (contents : S → Option (List ℕ)) (login : Named) (old : LinkState S) (lane : Heard) (carry : Carried) (a : Attached) (new : LinkState S) (lane2 : Heard) (carry2 : Carried)
      → old.login ≡ Some login → Attaches contents login old.socket lane carry (Ok a) new.socket lane2 carry2 → new.stage ≡ stage.Up → new.login ≡ None
      → TakesUpFor contents old.login old lane carry (Ok a) new lane2 carry2
  takes_up contents login old lane carry a new lane2 carry2 waits h s l =
      subst (λ (x : Option Named). TakesUpFor contents x old lane carry (Ok a) new lane2 carry2) (sym waits) ((h, s), l)

  pub declines_up : (contents : S → Option (List ℕ)) (login : Named) (old : LinkState S) (lane : Heard) (carry : Carried) (f : LinkFault) (new : LinkState S) (lane2 : Heard) (carry2 : Carried)
      → old.login ≡ Some login → Attaches contents login old.socket lane carry (Err (new.stage, f)) new.socket lane2 carry2 → new.login ≡ None
      → TakesUpFor contents old.login old lane carry (Err f) new lane2 carry2
  declines_up contents login old lane carry f new lane2 carry2 waits h l =
      subst (λ (x : Option Named). TakesUpFor contents x old lane carry (Err f) new lane2 carry2) (sym waits) (h, l)

  pub start_fails : (contents : S → Option (List ℕ)) (argv : List (List ℕ)) (old : LinkState S) (lane : Heard) (carry : Carried) (f : LinkFault) (new : LinkState S) (lane2 : Heard) (carry2 : Carried)
      → old.stage ≡ stage.Up → carry2 ≡ with_start lane.trace argv carry → UnsentAndUncut contents (start_bytes (orders lane.trace) (commands lane.trace) argv) f old (with_event lane Go) new lane2 carry2
      → Starts contents argv old.stage old lane carry (Err f) new lane2 carry2
  start_fails contents argv old lane carry f new lane2 carry2 up c u =
      subst (λ (x : Stage). Starts contents argv x old lane carry (Err f) new lane2 carry2) (sym up) (inr (c, u))

  pub start_cuts : (contents : S → Option (List ℕ)) (argv : List (List ℕ)) (old : LinkState S) (lane : Heard) (carry : Carried) (k : ℕ) (new : LinkState S) (lane2 : Heard) (carry2 : Carried)
      → old.stage ≡ stage.Up → k ≡ commands lane.trace → carry2 ≡ with_start lane.trace argv carry
      → UnsentAndCut contents (start_bytes (orders lane.trace) k argv) old (with_event lane Go) new lane2 carry2
      → Starts contents argv old.stage old lane carry (Ok k) new lane2 carry2
  start_cuts contents argv old lane carry k new lane2 carry2 up is c u =
      subst (λ (x : Stage). Starts contents argv x old lane carry (Ok k) new lane2 carry2) (sym up) (is, c, inr u)

  pub interrupt_fails : (contents : S → Option (List ℕ)) (k : ℕ) (old : LinkState S) (lane : Heard) (carry : Carried) (f : LinkFault) (new : LinkState S) (lane2 : Heard) (carry2 : Carried)
      → old.stage ≡ stage.Up → carry2 ≡ with_interrupt lane.trace k carry → Unsent contents (interrupt_bytes (orders lane.trace) k) f old (with_event lane (Stop k)) new lane2 carry2
      → Interrupts contents k old.stage old lane carry (Err f) new lane2 carry2
  interrupt_fails contents k old lane carry f new lane2 carry2 up c u =
      subst (λ (x : Stage). Interrupts contents k x old lane carry (Err f) new lane2 carry2) (sym up) (inr (c, u))
