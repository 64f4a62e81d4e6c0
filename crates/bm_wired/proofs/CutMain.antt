-- A run over connections that are cut is a schedule.
use Rattle.std.proofs.Common.{◌≡◌, refl, sym, ◌∙◌, ap, subst, ℕ, ◌+◌, ◌≤◌, ◌<◌, Bool, true, false, cond, not, ◌&&◌, List, [], ◌∷◌, ◌++◌, length, arith, inl, inr, append_assoc}
use Rattle.std.specs.Prelude.{◌==◌}
use Rattle.std.specs.List.{list_any, AllByRecursion}
use Rattle.std.proofs.lemmas.List.{append-nil, length_push}
use Rattle.std.proofs.lemmas.List.Concat.{flat_map-append}
use Rattle.bm_lane.specs.Ends.{Heard}
use Rattle.bm_lane.specs.Hearing.{with_event}
use Rattle.bm_link.specs.Orders.{start_bytes, interrupt_bytes, with_start, with_interrupt}
use Rattle.bm_lines.specs.Names.{stdio}
use Rattle.bm_session.proofs.Orders.{orders_are_small}
use Rattle.bm_session.specs.declared.event.Event.{Event}
use Rattle.bm_session.specs.declared.event.Event.TheVariants.{Up, Go, Stop, Down}
use Rattle.bm_session.proofs.Taken.{and-left, and-right}
use Rattle.bm_session.proofs.Visible.{drained_logs_are_whole}
use Rattle.bm_session.specs.Trace.{is_cut, log, orders, commands, visible}
use Rattle.bm_work.specs.Stream.{Report, said, sent, stream_from, without_answer}
use Rattle.bm_replay.specs.Schedule.{Worker, Scene, Act, new_worker, is_allowed, is_schedule_from, after, scene_after, reported, reported_by, requests_taken}
use Rattle.bm_replay.proofs.Agreement.{Agree, agrees-same, said-append, log-prefix, log-whole}
use Rattle.bm_replay.proofs.Logged.{kept}
use Rattle.bm_replay.proofs.Starts.{agree-at-first}
use Rattle.bm_wired.specs.Cuts.{Joined, Step, Steps, Goes, Make, Resend, Break, Leave, Lose, Meet, Begin, Apart, Greeted, begun_by, IsFree, apart, CutsAreSchedules, CutsAreLogged, AllIsLogged}
use Rattle.bm_wired.specs.Wired.{Wired, Move, Moves, Start, Interrupt, Inquire, Turn, Wait, Tell, Listen, Drain, Look, Orders, AreSendable}
use Rattle.bm_wired.proofs.Sim.{starts_down, stops_down, asks_down}
use Rattle.bm_wired.proofs.Main.{grows}
use Rattle.bm_wired.proofs.Easy.{ordered-by-go}
use Rattle.bm_wired.proofs.Joint.{Joint, Stepped, scene}
use Rattle.bm_wired.proofs.CutLane.{made, make-idle, make-Inquire, make-order, make-Drain}
use Rattle.bm_wired.proofs.CutTurn.{make-Turn}
use Rattle.bm_wired.proofs.CutTells.{make-Tell, step-Resend}
use Rattle.bm_wired.proofs.CutListens.{make-Listen}
use Rattle.bm_wired.proofs.CutEnds.{all-any, size-of, step-Break, step-Leave, step-Lose, step-resumed, step-begun}
use Rattle.bm_wired.proofs.CutMeets.{step-Meet}

-- ---- one step

makes-order : (c : ℕ) (x : Joined) (w : Worker) (argv : List (List ℕ)) (v : Wired) → Joint x w → AreSendable argv → Orders x.wired Go (with_start x.wired.lane.trace argv x.wired.carried) (start_bytes (orders x.wired.lane.trace) (commands x.wired.lane.trace) argv) v → length v.lane.trace ≤ c → Stepped c x w (made x v)
makes-order c x w argv v j s (inr y) l = subst (λ q. Stepped c x w (made x q)) (sym y.2) (make-idle c x w x.wired.outbox j j.parts.waits)
makes-order c x w argv v j s (inl y) l = let small = orders_are_small x.wired.lane.trace Go y.0 in let at = ordered-by-go x.wired.lane.trace in subst (λ (q : Wired). length q.lane.trace ≤ c → Stepped c x w (made x q)) (sym y.1)
    (make-order c x w Go (starts_down (orders x.wired.lane.trace) (commands x.wired.lane.trace) argv) (orders x.wired.lane.trace) j y.0 refl refl (λ k. refl) refl refl (at.0, at.1, small.0, small.1, s)) l

makes-stop : (c : ℕ) (x : Joined) (w : Worker) (k : ℕ) (v : Wired) → Joint x w → Orders x.wired (Stop k) (with_interrupt x.wired.lane.trace k x.wired.carried) (interrupt_bytes (orders x.wired.lane.trace) k) v → length v.lane.trace ≤ c → Stepped c x w (made x v)
makes-stop c x w k v j (inr y) l = subst (λ q. Stepped c x w (made x q)) (sym y.2) (make-idle c x w x.wired.outbox j j.parts.waits)
makes-stop c x w k v j (inl y) l = subst (λ (q : Wired). length q.lane.trace ≤ c → Stepped c x w (made x q)) (sym y.1)
    (make-order c x w (Stop k) (stops_down (orders x.wired.lane.trace) k) (orders x.wired.lane.trace) j y.0 refl refl (λ i. refl) refl refl (orders_are_small x.wired.lane.trace (Stop k) y.0)) l

makes : (c : ℕ) (m : Move) (x : Joined) (w : Worker) (v : Wired) → Joint x w → IsFree x m → Moves x.wired m v → length v.lane.trace ≤ c → Stepped c x w (made x v)
makes c (Start argv) x w v j free h l = makes-order c x w argv v j h.0 h.1 l
makes c (Interrupt k) x w v j free h l = makes-stop c x w k v j h l
makes c (Inquire a) x w v j free h l = subst (λ q. Stepped c x w (made x q)) (sym h.2) (make-Inquire c x w (asks_down x.wired.carried.next_ask a) j (h.1, h.0))
makes c Turn x w v j free h l = make-Turn c x w v j h l
makes c (Wait outbox) x w v j free h l = subst (λ q. Stepped c x w (made x q)) (sym h.1) (make-idle c x w outbox j h.0)
makes c Tell x w v j free h l = make-Tell c x w v j free.0 free.1 h
makes c Listen x w v j free h l = make-Listen c x w v j free h
makes c Drain x w v j free h l = subst (λ q. Stepped c x w (made x q)) (sym h.1) (make-Drain c x w j h.0)
makes c Look x w v j free h l = subst (λ q. Stepped c x w (made x q)) (sym h) (make-idle c x w x.wired.outbox j j.parts.waits)

by : (c : ℕ) (x : Joined) (w : Worker) (y z : Joined) → y ≡ z → length y.wired.lane.trace ≤ c → (length z.wired.lane.trace ≤ c → Stepped c x w z) → Stepped c x w y
by c x w y z e l f = subst (Stepped c x w) (sym e) (f (subst (λ (q : Joined). length q.wired.lane.trace ≤ c) e l))

begins : (c : ℕ) (x : Joined) (w : Worker) (resumed : Bool) → Joint x w → x.link ≡ Greeted resumed → Stepped c x w (begun_by resumed x)
begins c x w true j at = step-resumed c x w j at
begins c x w false j at = step-begun c x w j at

step : (c : ℕ) (s : Step) (x : Joined) (w : Worker) (y : Joined) → Joint x w → Steps x s y → length y.wired.lane.trace ≤ c → Stepped c x w y
step c (Make m) x w y j h l = by c x w y (made x h.0) h.3 l (λ l. makes c m x w h.0 j h.1 h.2 l)
step c Resend x w y j h l = by c x w y _ h.4 l (λ l. step-Resend c x w h.0 h.1 j h.2 h.3)
step c (Break i k) x w y j h l = by c x w y _ h l (λ l. step-Break c x w i k j)
step c Leave x w y j h l = by c x w y (record x { wired = record x.wired { down = [] }; link = Apart; backlog = []; whole = false }) (h.2 ∙ ap (λ (z : Joined). record z { link = Apart; backlog = [] }) h.1) l (λ l. step-Leave c x w j)
step c (Lose e) x w y j h l = by c x w y (record x { wired = record x.wired { lane = with_event x.wired.lane e; up = [] }; whole = false })
    (h.4 ∙ ap (λ (q : Heard). record x { wired = record x.wired { lane = q; up = [] }; whole = false }) h.3.0) l (λ l. step-Lose c x w e j h.2 h.3.2 l)
step c (Meet resumed named) x w y j h l = by c x w y _ h.3 l (λ l. step-Meet c x w resumed named j h.1 h.2 l)
step c Begin x w y j h l = by c x w y _ h.2 l (λ l. begins c x w h.0 j h.1)

-- ---- traces grow

longer : (t : List Event) (e : Event) → length t ≤ length (t ++ e ∷ [])
longer t e = let s : length (t ++ e ∷ []) ≡ length t + 1 = length_push t e in omega arith

from : (x y z : Joined) → y ≡ z → length x.wired.lane.trace ≤ length z.wired.lane.trace → length x.wired.lane.trace ≤ length y.wired.lane.trace
from x y z e l = subst (λ (q : Joined). length x.wired.lane.trace ≤ length q.wired.lane.trace) (sym e) l

same : (x : Joined) → length x.wired.lane.trace ≤ length x.wired.lane.trace
same x = omega arith

begun-same : (x : Joined) (resumed : Bool) → length x.wired.lane.trace ≤ length (begun_by resumed x).wired.lane.trace
begun-same x true = same x
begun-same x false = same x

met-longer : (lane : Heard) (cut resumed : Bool) → length lane.trace ≤ length (with_event (cond cut (cond resumed lane (with_event lane Down)) lane) Up).trace
met-longer lane true true = longer lane.trace Up
met-longer lane true false = let a : length lane.trace ≤ length (lane.trace ++ Down ∷ []) = longer lane.trace Down in let b : length (lane.trace ++ Down ∷ []) ≤ length ((lane.trace ++ Down ∷ []) ++ Up ∷ []) = longer (lane.trace ++ Down ∷ []) Up in omega arith
met-longer lane false resumed = longer lane.trace Up

steps-grow : (s : Step) (x y : Joined) → Steps x s y → length x.wired.lane.trace ≤ length y.wired.lane.trace
steps-grow (Make m) x y h = from x y (made x h.0) h.3 (grows m x.wired h.0 h.2)
steps-grow Resend x y h = from x y _ h.4 (same x)
steps-grow (Break i k) x y h = from x y _ h (same x)
steps-grow Leave x y h = from x y (record x { wired = record x.wired { down = [] }; link = Apart; backlog = []; whole = false }) (h.2 ∙ ap (λ (z : Joined). record z { link = Apart; backlog = [] }) h.1) (same x)
steps-grow (Lose e) x y h = from x y (record x { wired = record x.wired { lane = with_event x.wired.lane e; up = [] }; whole = false })
    (h.4 ∙ ap (λ (q : Heard). record x { wired = record x.wired { lane = q; up = [] }; whole = false }) h.3.0) (longer x.wired.lane.trace e)
steps-grow (Meet resumed named) x y h = from x y _ h.3 (met-longer x.wired.lane (is_cut x.wired.lane.trace) resumed)
steps-grow Begin x y h = from x y _ h.2 (begun-same x h.0)

goes-grow : (ss : List Step) (x y : Joined) → Goes x ss y → length x.wired.lane.trace ≤ length y.wired.lane.trace
goes-grow [] x y e = from x y x e (same x)
goes-grow (s ∷ ss) x y h = let a : length x.wired.lane.trace ≤ length h.0.wired.lane.trace = steps-grow s x h.0 h.1 in let b : length h.0.wired.lane.trace ≤ length y.wired.lane.trace = goes-grow ss h.0 y h.2 in omega arith

-- ---- all steps

joint-after : (c : ℕ) (x : Joined) (w : Worker) (y : Joined) → Joint x w → (s : Stepped c x w y) → Joint y s.worker
joint-after c x w y j s = record { agree = here; parts = s.parts }
  where
    all : Agree (λ k. said x.told k ++ said (reported s.acts) k) (scene_after (scene c x w) s.acts).lane.trace (scene_after (scene c x w) s.acts).worker
    all = kept s.acts (said x.told) (scene c x w) s.scheduled j.agree

    here : Agree (said y.told) y.wired.lane.trace s.worker
    here = agrees-same (λ k. said x.told k ++ said (reported s.acts) k) (said y.told) y.wired.lane.trace s.worker (λ k. sym (ap (λ rs. said rs k) s.told ∙ said-append x.told (reported s.acts) k))
        (subst (λ (q : Scene). Agree (λ k. said x.told k ++ said (reported s.acts) k) q.lane.trace q.worker) s.same all)

-- what steps reach, one after the other
record Through (c : ℕ) (x : Joined) (w : Worker) (y : Joined) : Type 0 where
  acts : List Act
  worker : Worker
  scheduled : is_schedule_from (scene c x w) acts ≡ true
  same : scene_after (scene c x w) acts ≡ scene c y worker
  told : y.told ≡ x.told ++ reported acts
  joint : Joint y worker

scheduled-both : (s : Scene) (first bs : List Act) → is_schedule_from s first ≡ true → is_schedule_from (scene_after s first) bs ≡ true → is_schedule_from s (first ++ bs) ≡ true
scheduled-both s [] bs h g = g
scheduled-both s (a ∷ first) bs h g = ap (λ b. b && is_schedule_from (after s a) (first ++ bs)) (and-left (is_allowed s a) (is_schedule_from (after s a) first) h) ∙ scheduled-both (after s a) first bs (and-right (is_allowed s a) (is_schedule_from (after s a) first) h) g

scene-both : (s : Scene) (first bs : List Act) → scene_after s (first ++ bs) ≡ scene_after (scene_after s first) bs
scene-both s [] bs = refl
scene-both s (a ∷ first) bs = scene-both (after s a) first bs

goes : (c : ℕ) (ss : List Step) (x : Joined) (w : Worker) (y : Joined) → Joint x w → Goes x ss y → length y.wired.lane.trace ≤ c → Through c x w y
goes c [] x w y j e l = subst (Through c x w) (sym e) (record { acts = []; worker = w; scheduled = refl; same = refl; told = sym (append-nil x.told); joint = j })
goes c (s ∷ ss) x w y j h l =
    let more : length h.0.wired.lane.trace ≤ length y.wired.lane.trace = goes-grow ss h.0 y h.2 in
    let a : Stepped c x w h.0 = step c s x w h.0 j h.1 (omega arith) in
    let b : Through c h.0 a.worker y = goes c ss h.0 a.worker y (joint-after c x w h.0 j a) h.2 l in
    record {
      acts = a.acts ++ b.acts;
      worker = b.worker;
      scheduled = scheduled-both (scene c x w) a.acts b.acts a.scheduled (ap (λ q. is_schedule_from q b.acts) a.same ∙ b.scheduled);
      same = scene-both (scene c x w) a.acts b.acts ∙ ap (λ q. scene_after q b.acts) a.same ∙ b.same;
      told = b.told ∙ ap (λ q. q ++ reported b.acts) a.told ∙ append_assoc x.told (reported a.acts) (reported b.acts) ∙ ap (λ q. x.told ++ q) (sym (flat_map-append reported_by a.acts b.acts));
      joint = b.joint;
    }

joint-first : (id capacity : ℕ) (resumable : Bool) → Joint (apart id capacity resumable) new_worker
joint-first id capacity resumable = record {
  agree = agree-at-first;
  parts = record {
    put = refl;
    waits = tt;
    kept = tt;
    down = record { downs = []; is = refl; fits = tt };
    side = inr (refl, record { new = refl; silent = refl; apart = λ e. absurd cc; unlike = λ e. absurd cc; unrefused = λ k st. refl });
  };
}

reached : (id capacity : ℕ) (resumable : Bool) (ss : List Step) (x : Joined) → Goes (apart id capacity resumable) ss x → Through (length x.wired.lane.trace) (apart id capacity resumable) new_worker x
reached id capacity resumable ss x h = goes (length x.wired.lane.trace) ss (apart id capacity resumable) new_worker x (joint-first id capacity resumable) h (omega arith)

-- ---- the laws

pub cuts_are_schedules : CutsAreSchedules
cuts_are_schedules id capacity resumable ss x h = let r = reached id capacity resumable ss x h in (
  length x.wired.lane.trace,
  r.acts,
  record {
    scheduled = r.scheduled;
    trace = ap (λ (s : Scene). s.lane.trace) r.same;
    shown = ap (λ (s : Scene). s.lane.shown) r.same;
    reported = sym r.told;
  },
)

pub cuts_are_logged : CutsAreLogged
cuts_are_logged id capacity resumable ss x k h = let r = reached id capacity resumable ss x h in log-prefix (said x.told) x.wired.lane.trace r.worker r.joint.agree k

none-left : (answered : List ℕ) (i : ℕ) (rs : List Report) (t : ℕ) → without_answer answered (stream_from i rs) ≡ [] → AllByRecursion (λ n. n < t) answered → i ≤ t → i + length rs ≤ t
none-left answered i [] t e all l = omega arith
none-left answered i (r ∷ rs) t e all l = go (list_any (λ n. n == i) answered) refl e (λ a b. none-left answered (i + 1) rs t a all b)
  where
    go : (b : Bool) → list_any (λ n. n == i) answered ≡ b → cond (not b) (sent i r ∷ without_answer answered (stream_from (i + 1) rs)) (without_answer answered (stream_from (i + 1) rs)) ≡ [] → (without_answer answered (stream_from (i + 1) rs) ≡ [] → i + 1 ≤ t → (i + 1) + length rs ≤ t) → i + length (r ∷ rs) ≤ t
    go true a e more = let less : i < t = all-any t i answered all a in let size : (i + 1) + length rs ≡ i + length (r ∷ rs) = size-of i r rs in let m : (i + 1) + length rs ≤ t = more e (omega arith) in omega arith
    go false a e more = absurd cc

pub all_is_logged : AllIsLogged
all_is_logged id capacity resumable ss x k h heard started none shown =
    let r = reached id capacity resumable ss x h in
    ap (λ d. log (visible x.wired.lane.trace d) k stdio) (shown ∙ ap length r.joint.parts.put)
    ∙ drained_logs_are_whole x.wired.lane.trace k stdio
    ∙ log-whole (said x.told) x.wired.lane.trace r.worker r.joint.agree k started (all-taken r.worker r.joint)
  where
    all-taken : (w : Worker) → Joint x w → requests_taken x.wired.lane.trace ≡ length w.reports
    all-taken w j = elim j.parts.side [
      | inl y ↦ (let few : requests_taken x.wired.lane.trace ≤ length w.reports = j.agree.few in
          let most : 0 + length x.wired.core.reports ≤ requests_taken x.wired.lane.trace = none-left x.wired.core.answered 0 x.wired.core.reports (requests_taken x.wired.lane.trace) none y.1.answered (omega arith) in
          let same : length w.reports ≡ length x.wired.core.reports = ap length y.1.reports in omega arith)
      | inr y ↦ (let z : x.heard ≡ false = y.0 in absurd cc)
    ]
