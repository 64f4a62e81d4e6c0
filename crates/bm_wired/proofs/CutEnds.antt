-- Connections end and begin.
use Rattle.std.proofs.Common.{◌≡◌, refl, sym, ◌∙◌, ap, subst, ℕ, zero, suc, ◌+◌, ◌≤◌, ◌<◌, Bool, true, false, cond, not, ◌&&◌, List, [], ◌∷◌, ◌++◌, map, length, take, Some, None, arith, inl, inr, ◌⊎◌, append_assoc}
use Rattle.std.specs.Prelude.{◌==◌, nat_le, slice_get}
use Rattle.std.specs.List.{list_any, AllByRecursion}
use Rattle.std.proofs.lemmas.Bool.{eqb-true, or_cases}
use Rattle.std.proofs.lemmas.Bool.Decides.{nat_tests}
use Rattle.std.proofs.lemmas.List.{append-nil, length_push}
use Rattle.bm_lane.specs.Hearing.{with_event}
use Rattle.bm_session.proofs.Pushed.{next}
use Rattle.bm_session.specs.declared.event.Event.{Event}
use Rattle.bm_session.specs.declared.event.Event.TheVariants.{Cut, Down}
use Rattle.bm_session.specs.Trace.{Trace, begins_session, is_fresh, refusal, refuses}
use Rattle.bm_work.specs.Core.{Core, new_core, unanswered_requests}
use Rattle.bm_work.specs.Stream.{Report, sent, stream_from, without_answer}
use Rattle.bm_work.specs.declared.sent.Sent.{Sent}
use Rattle.bm_world.specs.declared.step.Step.TheVariants.{Hear}
use Rattle.bm_world.specs.World.{World}
use Rattle.bm_replay.specs.Schedule.{Worker, Make, new_worker, is_own_step, is_schedule_from, after, worker_after, was_refused, requests_taken}
use Rattle.bm_wired.specs.Cuts.{Joined, Link, Apart, Greeted, Stands, begun_by}
use Rattle.bm_wired.specs.Wired.{bytes_in}
use Rattle.bm_wired.proofs.Sim.{down_bytes, Upward, asks_up, up_bytes, FitsUp}
use Rattle.bm_wired.proofs.Framework.{takes}
use Rattle.bm_wired.proofs.Parts.{all-map}
use Rattle.bm_wired.proofs.Tells.{get-at}
use Rattle.bm_wired.proofs.Joint.{Joint, Stepped, Side, Knowing, Unknowing, Fits, Flows, grown, scene, take-map, all-take, flows-take, flows-within, kept-next, down-next, side-quiet}

-- ---- the connection is cut

take-none : {A : Type 0} (i : ℕ) → ◌≡◌ {A = List A} (take i []) []
take-none zero = refl
take-none (suc i) = refl

pub step-Break : (c : ℕ) (x : Joined) (w : Worker) (i l : ℕ) → Joint x w → Stepped c x w (record x { wired = record x.wired { up = take i x.wired.up; down = take l x.wired.down }; whole = false })
step-Break c x w i l j = record {
  acts = [];
  worker = w;
  scheduled = refl;
  same = refl;
  told = sym (append-nil x.told);
  parts = record {
    put = j.parts.put;
    waits = j.parts.waits;
    kept = j.parts.kept;
    down = let d = j.parts.down in record { downs = take l d.downs; is = ap (take l) d.is ∙ take-map down_bytes l d.downs; fits = all-take (Fits x.wired.lane.trace) l d.downs d.fits };
    side = elim j.parts.side [
      | inl y ↦ inl (y.0, knows y.1)
      | inr y ↦ inr (y.0, record { new = y.1.new; silent = ap (take i) y.1.silent ∙ take-none i; apart = y.1.apart; unlike = y.1.unlike; unrefused = y.1.unrefused })
    ];
  };
}
  where
    knows : Knowing x.wired.lane.trace x.wired.core x.wired.up x.link x.backlog x.whole w → Knowing x.wired.lane.trace x.wired.core (take i x.wired.up) x.link x.backlog false w
    knows k = let u = k.upward in let f = flows-take i (requests_taken x.wired.lane.trace) u.ups u.end u.flows in record {
      reports = k.reports;
      past = k.past;
      sayable = k.sayable;
      answered = k.answered;
      upward = record { ups = take i u.ups; is = ap (take i) u.is ∙ take-map up_bytes i u.ups; fits = all-take (FitsUp x.wired.core) i u.ups u.fits; end = f.0; flows = f.1 };
      rest = λ b s. absurd cc;
      unlike = k.unlike;
    }

-- ---- the worker's link ends

pub step-Leave : (c : ℕ) (x : Joined) (w : Worker) → Joint x w → Stepped c x w (record x { wired = record x.wired { down = [] }; link = Apart; backlog = []; whole = false })
step-Leave c x w j = record {
  acts = [];
  worker = w;
  scheduled = refl;
  same = refl;
  told = sym (append-nil x.told);
  parts = record {
    put = j.parts.put;
    waits = j.parts.waits;
    kept = j.parts.kept;
    down = record { downs = []; is = refl; fits = tt };
    side = elim j.parts.side [
      | inl y ↦ inl (y.0, knows y.1)
      | inr y ↦ inr (y.0, record { new = y.1.new; silent = y.1.silent; apart = λ e. absurd cc; unlike = λ e. absurd cc; unrefused = y.1.unrefused })
    ];
  };
}
  where
    knows : Knowing x.wired.lane.trace x.wired.core x.wired.up x.link x.backlog x.whole w → Knowing x.wired.lane.trace x.wired.core x.wired.up Apart [] false w
    knows k = record {
      reports = k.reports;
      past = k.past;
      sayable = k.sayable;
      answered = k.answered;
      upward = k.upward;
      rest = λ b s. absurd cc;
      unlike = λ e. absurd cc;
    }

-- ---- the lane's link ends, or its session is given up

emptied : (t : Trace) (core : Core) (up : List (List ℕ)) (link : Link) (backlog : List Sent) (whole heard : Bool) (w : Worker) → Side t core up link backlog whole heard w → Side t core [] link backlog false heard w
emptied t core up link backlog whole heard w (inl y) = let k = y.1 in inl (
  y.0,
  record {
    reports = k.reports;
    past = k.past;
    sayable = k.sayable;
    answered = k.answered;
    upward = record { ups = []; is = refl; fits = tt; end = requests_taken t; flows = refl };
    rest = λ b s. absurd cc;
    unlike = k.unlike;
  },
)
emptied t core up link backlog whole heard w (inr y) = let u = y.1 in inr (y.0, record { new = u.new; silent = refl; apart = u.apart; unlike = u.unlike; unrefused = u.unrefused })

lose-by : (c : ℕ) (x : Joined) (w : Worker) (e : Event) → Joint x w → refusal x.wired.lane.trace e ≡ None → begins_session (next x.wired.lane.trace e) ≡ false → is_fresh (next x.wired.lane.trace e) ≡ false → ((k : ℕ) → refuses x.wired.lane.trace k e ≡ false)
    → is_own_step (Hear e) ≡ true → worker_after (scene c x w) (Make (Hear e)) ≡ w → length (x.wired.lane.trace ++ e ∷ []) ≤ c
    → Stepped c x w (record x { wired = record x.wired { lane = with_event x.wired.lane e; up = [] }; whole = false })
lose-by c x w e j r b f nr own still l = record {
  acts = Make (Hear e) ∷ [];
  worker = w;
  scheduled = ap (λ a. a && is_schedule_from (after (scene c x w) (Make (Hear e))) []) own;
  same = ap (λ (v : World). record { lane = v; worker = worker_after (scene c x w) (Make (Hear e)) }) (takes c x.wired.shown x.wired.lane.trace e r few)
      ∙ ap (λ (v : Worker). record { lane = record { capacity = c; trace = x.wired.lane.trace ++ e ∷ []; shown = x.wired.shown }; worker = v }) still;
  told = sym (append-nil x.told);
  parts = record {
    put = refl;
    waits = j.parts.waits;
    kept = kept-next x.wired.lane.trace e x.wired.carried.orders b j.parts.kept;
    down = down-next x.wired.lane.trace e x.wired.down b j.parts.down;
    side = emptied (x.wired.lane.trace ++ e ∷ []) x.wired.core x.wired.up x.link x.backlog x.whole x.heard w (side-quiet x.wired.lane.trace e x.wired.core x.wired.up x.link x.backlog x.whole x.heard w b f nr j.parts.side);
  };
}
  where
    few : length x.wired.lane.trace < c
    few = let size : length (x.wired.lane.trace ++ e ∷ []) ≡ length x.wired.lane.trace + 1 = length_push x.wired.lane.trace e in omega arith

pub step-Lose : (c : ℕ) (x : Joined) (w : Worker) (e : Event) → Joint x w → (e ≡ Cut) ⊎ (e ≡ Down) → refusal x.wired.lane.trace e ≡ None → length (x.wired.lane.trace ++ e ∷ []) ≤ c
    → Stepped c x w (record x { wired = record x.wired { lane = with_event x.wired.lane e; up = [] }; whole = false })
step-Lose c x w e j (inl s) r l = subst (λ q. refusal x.wired.lane.trace q ≡ None → length (x.wired.lane.trace ++ q ∷ []) ≤ c → Stepped c x w (record x { wired = record x.wired { lane = with_event x.wired.lane q; up = [] }; whole = false })) (sym s) (λ r l. lose-by c x w Cut j r refl refl (λ k. refl) refl refl l) r l
step-Lose c x w e j (inr s) r l = subst (λ q. refusal x.wired.lane.trace q ≡ None → length (x.wired.lane.trace ++ q ∷ []) ≤ c → Stepped c x w (record x { wired = record x.wired { lane = with_event x.wired.lane q; up = [] }; whole = false })) (sym s) (λ r l. lose-by c x w Down j r refl refl (λ k. refl) refl refl l) r l

-- ---- the worker hears that its session is resumed

abbrev open-ups : List ℕ → ℕ → List Report → List Upward
open-ups answered i [] = []
open-ups answered i (r ∷ rs) = cond (not (list_any (λ n. n == i) answered)) (asks_up i r ∷ open-ups answered (i + 1) rs) (open-ups answered (i + 1) rs)

choose-bytes : (b : Bool) (i : ℕ) (r : Report) (us : List Upward) (ss : List Sent) → bytes_in ss ≡ map up_bytes us → bytes_in (cond b (sent i r ∷ ss) ss) ≡ map up_bytes (cond b (asks_up i r ∷ us) us)
choose-bytes true i r us ss e = ap (λ q. (sent i r).bytes ∷ q) e
choose-bytes false i r us ss e = e

open-bytes : (answered : List ℕ) (i : ℕ) (rs : List Report) → bytes_in (without_answer answered (stream_from i rs)) ≡ map up_bytes (open-ups answered i rs)
open-bytes answered i [] = refl
open-bytes answered i (r ∷ rs) = choose-bytes (not (list_any (λ n. n == i) answered)) i r (open-ups answered (i + 1) rs) (without_answer answered (stream_from (i + 1) rs)) (open-bytes answered (i + 1) rs)

choose-fits : (core : Core) (b : Bool) (i : ℕ) (r : Report) (us : List Upward) → slice_get core.reports i ≡ Some r → AllByRecursion (FitsUp core) us → AllByRecursion (FitsUp core) (cond b (asks_up i r ∷ us) us)
choose-fits core true i r us g f = (g, f)
choose-fits core false i r us g f = f

open-fits : (core : Core) (answered : List ℕ) (pre rs : List Report) → core.reports ≡ pre ++ rs → AllByRecursion (FitsUp core) (open-ups answered (length pre) rs)
open-fits core answered pre [] e = tt
open-fits core answered pre (r ∷ rs) e = choose-fits core (not (list_any (λ n. n == length pre) answered)) (length pre) r (open-ups answered (length pre + 1) rs) (ap (λ q. slice_get q (length pre)) e ∙ get-at pre r rs)
    (subst (λ i. AllByRecursion (FitsUp core) (open-ups answered i rs)) (length_push pre r) (open-fits core answered (pre ++ r ∷ []) rs (e ∙ sym (append_assoc pre (r ∷ []) rs))))

pub all-any : (t i : ℕ) (ns : List ℕ) → AllByRecursion (λ n. n < t) ns → list_any (λ n. n == i) ns ≡ true → i < t
all-any t i [] h g = absurd cc
all-any t i (n ∷ ns) h g = elim (or_cases (n == i) (list_any (λ m. m == i) ns) g) [
  | inl e ↦ subst (λ q. q < t) (eqb-true n i e) h.0
  | inr e ↦ all-any t i ns h.1 e
]

choose-flows : (b : Bool) (t i : ℕ) (r : Report) (us : List Upward) (m : ℕ) → (b ≡ true → (i ≤ t) × Flows (grown t i) us m) → (b ≡ false → Flows t us m) → Flows t (cond b (asks_up i r ∷ us) us) m
choose-flows true t i r us m f g = f refl
choose-flows false t i r us m f g = g refl

pub size-of : (i : ℕ) (r : Report) (rs : List Report) → (i + 1) + length rs ≡ i + length (r ∷ rs)
size-of i r rs = omega arith

later : (t u : ℕ) (ns : List ℕ) → t ≤ u → AllByRecursion (λ n. n < t) ns → AllByRecursion (λ n. n < u) ns
later t u ns l h = all-map (λ n. n < t) (λ n. n < u) ns (λ n g. omega arith) h

open-flows : (answered : List ℕ) (rs : List Report) (i t : ℕ) → i ≤ t → t ≤ i + length rs → AllByRecursion (λ n. n < t) answered → Flows t (open-ups answered i rs) (i + length rs)
open-flows answered [] i t low high all = omega arith
open-flows answered (r ∷ rs) i t low high all = choose-flows (not (list_any (λ n. n == i) answered)) t i r (open-ups answered (i + 1) rs) (i + length (r ∷ rs))
    (λ e. (low, further (nat_le t i) refl (λ u a b d. subst (Flows u (open-ups answered (i + 1) rs)) (size-of i r rs) (open-flows answered rs (i + 1) u a b d))))
    (λ e. skipped (list_any (λ n. n == i) answered) refl e (λ a b. subst (Flows t (open-ups answered (i + 1) rs)) (size-of i r rs) (open-flows answered rs (i + 1) t a b all)))
  where
    further : (b : Bool) → nat_le t i ≡ b → ((u : ℕ) → i + 1 ≤ u → u ≤ (i + 1) + length rs → AllByRecursion (λ n. n < u) answered → Flows u (open-ups answered (i + 1) rs) (i + length (r ∷ rs))) → Flows (t + cond b 1 0) (open-ups answered (i + 1) rs) (i + length (r ∷ rs))
    further true e go = let less : t ≤ i = grind (arith, nat_tests) in go (t + 1) (omega arith) (omega arith) (later t (t + 1) answered (omega arith) all)
    further false e go = let more : i < t = grind (arith, nat_tests) in let s : (i + 1) + length rs ≡ i + length (r ∷ rs) = size-of i r rs in go (t + 0) (omega arith) (omega arith) (later t (t + 0) answered (omega arith) all)

    skipped : (b : Bool) → list_any (λ n. n == i) answered ≡ b → not b ≡ false → (i + 1 ≤ t → t ≤ (i + 1) + length rs → Flows t (open-ups answered (i + 1) rs) (i + length (r ∷ rs))) → Flows t (open-ups answered (i + 1) rs) (i + length (r ∷ rs))
    skipped true e f go = let less : i < t = all-any t i answered all e in let s : (i + 1) + length rs ≡ i + length (r ∷ rs) = size-of i r rs in go (omega arith) (omega arith)
    skipped false e f go = absurd cc

pub step-resumed : (c : ℕ) (x : Joined) (w : Worker) → Joint x w → x.link ≡ Greeted true → Stepped c x w (begun_by true x)
step-resumed c x w j at = record {
  acts = [];
  worker = w;
  scheduled = refl;
  same = refl;
  told = sym (append-nil x.told);
  parts = record {
    put = j.parts.put;
    waits = j.parts.waits;
    kept = j.parts.kept;
    down = j.parts.down;
    side = elim j.parts.side [
      | inl y ↦ inl (y.0, knows y.1)
      | inr y ↦ absurd (y.1.unlike at)
    ];
  };
}
  where
    knows : Knowing x.wired.lane.trace x.wired.core x.wired.up x.link x.backlog x.whole w → Knowing x.wired.lane.trace x.wired.core x.wired.up Stands (unanswered_requests x.wired.core) x.whole w
    knows k =
        let taken : requests_taken x.wired.lane.trace ≤ length x.wired.core.reports = subst (λ q. requests_taken x.wired.lane.trace ≤ length q) k.reports j.agree.few in
        let within = flows-within x.wired.core (requests_taken x.wired.lane.trace) k.upward.ups k.upward.end taken k.upward.flows k.upward.fits in
        let least : requests_taken x.wired.lane.trace ≤ k.upward.end = within.0 in
        let most : k.upward.end ≤ length x.wired.core.reports = within.1 in
        let size : 0 + length x.wired.core.reports ≡ length x.wired.core.reports = omega arith in
        record {
          reports = k.reports;
          past = k.past;
          sayable = k.sayable;
          answered = k.answered;
          upward = k.upward;
          rest = λ b s. record {
            again = open-ups x.wired.core.answered 0 x.wired.core.reports;
            are = open-bytes x.wired.core.answered 0 x.wired.core.reports;
            fits = open-fits x.wired.core x.wired.core.answered [] x.wired.core.reports refl;
            flows = subst (Flows k.upward.end (open-ups x.wired.core.answered 0 x.wired.core.reports)) size (open-flows x.wired.core.answered x.wired.core.reports 0 k.upward.end (omega arith) (omega arith) (later (requests_taken x.wired.lane.trace) k.upward.end x.wired.core.answered least k.answered));
          };
          unlike = λ e. absurd cc;
        }

-- ---- or that it is new

anew : (t : Trace) (up : List (List ℕ)) (link : Link) (backlog : List Sent) (whole : Bool) → requests_taken t ≤ 0 → Unknowing t up link new_worker → Knowing t new_core up Stands [] whole new_worker
anew t up link backlog whole few u = record {
  reports = refl;
  past = record { running = λ k h. absurd cc; ran_by = λ k h. absurd cc; refused_by = λ k h st. let z : was_refused t k ≡ false = u.unrefused k st in absurd cc };
  sayable = tt;
  answered = tt;
  upward = record { ups = []; is = u.silent; fits = tt; end = requests_taken t; flows = refl };
  rest = λ b s. record { again = []; are = refl; fits = tt; flows = omega arith };
  unlike = λ e. absurd cc;
}

pub step-begun : (c : ℕ) (x : Joined) (w : Worker) → Joint x w → x.link ≡ Greeted false → Stepped c x w (begun_by false x)
step-begun c x w j at = record {
  acts = [];
  worker = w;
  scheduled = refl;
  same = refl;
  told = sym (append-nil x.told);
  parts = record {
    put = j.parts.put;
    waits = tt;
    kept = j.parts.kept;
    down = j.parts.down;
    side = elim j.parts.side [
      | inl y ↦ absurd (y.1.unlike at)
      | inr y ↦ inl (
        refl,
        subst (λ v. Knowing x.wired.lane.trace new_core x.wired.up Stands [] x.whole v) (sym y.1.new)
            (anew x.wired.lane.trace x.wired.up x.link x.backlog x.whole (subst (λ (v : Worker). requests_taken x.wired.lane.trace ≤ length v.reports) y.1.new j.agree.few) (subst (Unknowing x.wired.lane.trace x.wired.up x.link) y.1.new y.1)),
      )
    ];
  };
}
