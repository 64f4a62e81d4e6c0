-- A login of the worker takes the lane up.
use Rattle.std.proofs.Common.{◌≡◌, refl, sym, ◌∙◌, ap, subst, ℕ, ◌+◌, ◌≤◌, ◌<◌, Bool, true, false, cond, not, ◌&&◌, ◌||◌, List, [], ◌∷◌, ◌++◌, length, None, Option, arith, inl, inr, ◌⊎◌}
use Rattle.std.specs.Prelude.{is_none}
use Rattle.std.specs.List.{AllByRecursion}
use Rattle.std.proofs.lemmas.List.{append-nil, length_push}
use Rattle.bm_lane.specs.Ends.{Heard}
use Rattle.bm_lane.specs.Hearing.{with_event}
use Rattle.bm_link.specs.Attaching.{cleared, taken_up}
use Rattle.bm_link.specs.Carries.{carried_with}
use Rattle.bm_session.proofs.Pushed.{next, is_cut-push}
use Rattle.bm_session.specs.declared.event.Event.TheVariants.{Up, Down}
use Rattle.bm_session.specs.declared.refusal.Refusal.TheVariants.{NotUp}
use Rattle.bm_session.specs.Trace.{Trace, begins_session, first_reason, is_cut, is_up, reason_if, refusal}
use Rattle.bm_work.specs.Core.{Core, new_core}
use Rattle.bm_work.specs.declared.sent.Sent.{Sent}
use Rattle.bm_world.specs.declared.step.Step.TheVariants.{Hear}
use Rattle.bm_world.specs.World.{World}
use Rattle.bm_replay.specs.Schedule.{Worker, Scene, Make, new_worker, after, requests_taken, was_started, was_refused}
use Rattle.bm_replay.proofs.Lists.{or-second}
use Rattle.bm_replay.proofs.Sessions.{was_started-push}
use Rattle.bm_wired.specs.Cuts.{Joined, Link, Greeted}
use Rattle.bm_wired.specs.Wired.{bytes_in}
use Rattle.bm_wired.proofs.Sim.{down_bytes}
use Rattle.bm_wired.proofs.Framework.{takes}
use Rattle.bm_wired.proofs.Joint.{Joint, Stepped, Side, Knowing, AreDown, IsKept, kept-next, side-quiet}

-- the orders that are carried are sent again
kept-down : (t : Trace) (orders : List Sent) → AllByRecursion (IsKept t) orders → AreDown t (bytes_in orders)
kept-down t [] h = record { downs = []; is = refl; fits = tt }
kept-down t (o ∷ os) h = let d = kept-down t os h.1 in record {
  downs = h.0.0 ∷ d.downs;
  is = ap (λ b. b ∷ bytes_in os) h.0.1 ∙ ap (λ q. down_bytes h.0.0 ∷ q) d.is;
  fits = (h.0.2, d.fits);
}

-- the lane after it
abbrev pub met : Joined → Heard → Bool → Option (List ℕ) → Joined
met x lane resumed named =
    record x {
      wired = record x.wired {
        lane = lane;
        carried = carried_with resumed x.wired.carried named;
        up = [];
        down = bytes_in (carried_with resumed x.wired.carried named).orders;
      };
      link = Greeted resumed;
      whole = true;
      heard = resumed;
    }

-- a session that is resumed

-- of a core that is new
new-greeted : (t : Trace) (backlog : List Sent) → ((k : ℕ) → was_started t k ≡ true → was_refused t k ≡ false) → Knowing t new_core [] (Greeted true) backlog true new_worker
new-greeted t backlog un = record {
  reports = refl;
  past = record { running = λ k h. absurd cc; ran_by = λ k h. absurd cc; refused_by = λ k h st. let z : was_refused t k ≡ false = un k st in absurd cc };
  sayable = tt;
  answered = tt;
  upward = record { ups = []; is = refl; fits = tt; end = requests_taken t; flows = refl };
  rest = λ b s. absurd cc;
  unlike = λ e. absurd cc;
}

greeted : (t : Trace) (core : Core) (up : List (List ℕ)) (link : Link) (backlog : List Sent) (whole heard : Bool) (w : Worker) → (heard ≡ true) ⊎ (core ≡ new_core) → Side t core up link backlog whole heard w → Side t core [] (Greeted true) backlog true true w
greeted t core up link backlog whole heard w h (inl y) = let k = y.1 in inl (
  refl,
  record {
    reports = k.reports;
    past = k.past;
    sayable = k.sayable;
    answered = k.answered;
    upward = record { ups = []; is = refl; fits = tt; end = requests_taken t; flows = refl };
    rest = λ b s. absurd cc;
    unlike = λ e. absurd cc;
  },
)
greeted t core up link backlog whole heard w (inl h) (inr y) = let z : heard ≡ false = y.0 in absurd cc
greeted t core up link backlog whole heard w (inr h) (inr y) =
    inl (refl, subst (λ q. Knowing t q [] (Greeted true) backlog true w) (sym h) (subst (λ v. Knowing t new_core [] (Greeted true) backlog true v) (sym y.1.new) (new-greeted t backlog (λ k st. y.1.unrefused k st))))

meet-again : (c : ℕ) (x : Joined) (w : Worker) (named : Option (List ℕ)) → Joint x w → is_cut x.wired.lane.trace ≡ true → (x.heard ≡ true) ⊎ (x.wired.core ≡ new_core) → refusal x.wired.lane.trace Up ≡ None → length (x.wired.lane.trace ++ Up ∷ []) ≤ c
    → Stepped c x w (met x (with_event x.wired.lane Up) true named)
meet-again c x w named j cut heard r l = record {
  acts = Make (Hear Up) ∷ [];
  worker = w;
  scheduled = refl;
  same = ap (λ (v : World). record { lane = v; worker = cond (is_none (refusal x.wired.lane.trace Up) && not (is_cut x.wired.lane.trace)) new_worker w }) (takes c x.wired.shown x.wired.lane.trace Up r few)
      ∙ ap (λ (v : Worker). record { lane = record { capacity = c; trace = x.wired.lane.trace ++ Up ∷ []; shown = x.wired.shown }; worker = v })
      (ap (λ o. cond (is_none o && not (is_cut x.wired.lane.trace)) new_worker w) r ∙ ap (λ b. cond (not b) new_worker w) cut);
  told = sym (append-nil x.told);
  parts = record {
    put = refl;
    waits = j.parts.waits;
    kept = kept;
    down = kept-down (x.wired.lane.trace ++ Up ∷ []) x.wired.carried.orders kept;
    side = greeted (x.wired.lane.trace ++ Up ∷ []) x.wired.core x.wired.up x.link x.backlog x.whole x.heard w heard (side-quiet x.wired.lane.trace Up x.wired.core x.wired.up x.link x.backlog x.whole x.heard w on refl (λ k. refl) j.parts.side);
  };
}
  where
    on : begins_session (next x.wired.lane.trace Up) ≡ false
    on = ap not cut

    few : length x.wired.lane.trace < c
    few = let size : length (x.wired.lane.trace ++ Up ∷ []) ≡ length x.wired.lane.trace + 1 = length_push x.wired.lane.trace Up in omega arith

    kept : AllByRecursion (IsKept (x.wired.lane.trace ++ Up ∷ [])) x.wired.carried.orders
    kept = kept-next x.wired.lane.trace Up x.wired.carried.orders on j.parts.kept

-- a session that is new

unheard : (t : Trace) (core : Core) (backlog : List Sent) → is_cut t ≡ false → Side (t ++ Up ∷ []) core [] (Greeted false) backlog true false new_worker
unheard t core backlog cut = inr (
  refl,
  record {
    new = refl;
    silent = refl;
    apart = λ e. absurd cc;
    unlike = λ e. absurd cc;
    unrefused = λ k st. let none : was_started (t ++ Up ∷ []) k ≡ false = was_started-push t Up k ∙ ap (λ b. cond (not b) false (was_started t k || false)) cut in absurd cc;
  },
)

new-here : (c d : ℕ) (t : Trace) (w : Worker) → refusal t Up ≡ None → is_cut t ≡ false → length t < c
    → after (record { lane = record { capacity = c; trace = t; shown = d }; worker = w }) (Make (Hear Up)) ≡ record { lane = record { capacity = c; trace = t ++ Up ∷ []; shown = d }; worker = new_worker }
new-here c d t w r cut l =
    ap (λ (v : World). record { lane = v; worker = cond (is_none (refusal t Up) && not (is_cut t)) new_worker w }) (takes c d t Up r l)
    ∙ ap (λ (v : Worker). record { lane = record { capacity = c; trace = t ++ Up ∷ []; shown = d }; worker = v })
    (ap (λ o. cond (is_none o && not (is_cut t)) new_worker w) r ∙ ap (λ b. cond (not b) new_worker w) cut)

meet-new : (c : ℕ) (x : Joined) (w : Worker) (named : Option (List ℕ)) → Joint x w → is_cut x.wired.lane.trace ≡ false → refusal x.wired.lane.trace Up ≡ None → length (x.wired.lane.trace ++ Up ∷ []) ≤ c
    → Stepped c x w (met x (with_event x.wired.lane Up) false named)
meet-new c x w named j cut r l = record {
  acts = Make (Hear Up) ∷ [];
  worker = new_worker;
  scheduled = refl;
  same = new-here c x.wired.shown x.wired.lane.trace w r cut few;
  told = sym (append-nil x.told);
  parts = record {
    put = refl;
    waits = j.parts.waits;
    kept = tt;
    down = record { downs = []; is = refl; fits = tt };
    side = unheard x.wired.lane.trace x.wired.core x.backlog cut;
  };
}
  where
    few : length x.wired.lane.trace < c
    few = let size : length (x.wired.lane.trace ++ Up ∷ []) ≡ length x.wired.lane.trace + 1 = length_push x.wired.lane.trace Up in omega arith

-- the one that was cut is given up first
down-taken : (t : Trace) → is_cut t ≡ true → refusal t Down ≡ None
down-taken t cut = ap (λ b. first_reason (reason_if (not b) NotUp) None) (or-second (is_up t) (is_cut t) cut)

meet-anew : (c : ℕ) (x : Joined) (w : Worker) (named : Option (List ℕ)) → Joint x w → is_cut x.wired.lane.trace ≡ true → refusal (x.wired.lane.trace ++ Down ∷ []) Up ≡ None → length ((x.wired.lane.trace ++ Down ∷ []) ++ Up ∷ []) ≤ c
    → Stepped c x w (met x (with_event (with_event x.wired.lane Down) Up) false named)
meet-anew c x w named j cut r l = record {
  acts = Make (Hear Down) ∷ Make (Hear Up) ∷ [];
  worker = new_worker;
  scheduled = refl;
  same = ap (λ (s : Scene). after s (Make (Hear Up))) (ap (λ (v : World). record { lane = v; worker = w }) (takes c x.wired.shown x.wired.lane.trace Down (down-taken x.wired.lane.trace cut) few))
      ∙ new-here c x.wired.shown (x.wired.lane.trace ++ Down ∷ []) w r uncut fewer;
  told = sym (append-nil x.told);
  parts = record {
    put = refl;
    waits = j.parts.waits;
    kept = tt;
    down = record { downs = []; is = refl; fits = tt };
    side = unheard (x.wired.lane.trace ++ Down ∷ []) x.wired.core x.backlog uncut;
  };
}
  where
    uncut : is_cut (x.wired.lane.trace ++ Down ∷ []) ≡ false
    uncut = is_cut-push x.wired.lane.trace Down

    fewer : length (x.wired.lane.trace ++ Down ∷ []) < c
    fewer = let size : length ((x.wired.lane.trace ++ Down ∷ []) ++ Up ∷ []) ≡ length (x.wired.lane.trace ++ Down ∷ []) + 1 = length_push (x.wired.lane.trace ++ Down ∷ []) Up in omega arith

    few : length x.wired.lane.trace < c
    few = let size : length (x.wired.lane.trace ++ Down ∷ []) ≡ length x.wired.lane.trace + 1 = length_push x.wired.lane.trace Down in let l : length (x.wired.lane.trace ++ Down ∷ []) < c = fewer in omega arith

-- all three

abbrev cleared-by : Bool → Bool → Heard → Heard
cleared-by cut resumed lane = cond cut (cond resumed lane (with_event lane Down)) lane

pub step-Meet : (c : ℕ) (x : Joined) (w : Worker) (resumed : Bool) (named : Option (List ℕ)) → Joint x w → refusal (cleared resumed x.wired.lane).trace Up ≡ None → (resumed ≡ true → (is_cut x.wired.lane.trace ≡ true) × ((x.heard ≡ true) ⊎ (x.wired.core ≡ new_core))) → length (taken_up resumed x.wired.lane).trace ≤ c
    → Stepped c x w (met x (taken_up resumed x.wired.lane) resumed named)
step-Meet c x w resumed named j r may l = go resumed (is_cut x.wired.lane.trace) refl may r l
  where
    go : (again cut : Bool) → is_cut x.wired.lane.trace ≡ cut → (again ≡ true → (is_cut x.wired.lane.trace ≡ true) × ((x.heard ≡ true) ⊎ (x.wired.core ≡ new_core))) → refusal (cleared-by cut again x.wired.lane).trace Up ≡ None → length (with_event (cleared-by cut again x.wired.lane) Up).trace ≤ c
        → Stepped c x w (met x (with_event (cleared-by cut again x.wired.lane) Up) again named)
    go true true e may r l = meet-again c x w named j e (may refl).1 r l
    go true false e may r l = let z : is_cut x.wired.lane.trace ≡ true = (may refl).0 in absurd cc
    go false true e may r l = meet-anew c x w named j e r l
    go false false e may r l = meet-new c x w named j e r l
