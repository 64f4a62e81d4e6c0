-- The master's moves, over connections that are cut.
use Rattle.std.proofs.Common.{◌≡◌, refl, sym, ◌∙◌, ap, subst, ℕ, ◌+◌, ◌≤◌, ◌<◌, ◌^◌, Bool, true, false, cond, ◌&&◌, List, [], ◌∷◌, ◌++◌, length, drop, None, arith}
use Rattle.std.specs.Prelude.{nat_lt}
use Rattle.std.specs.List.{AllByRecursion}
use Rattle.std.proofs.lemmas.Bool.Decides.{nat_tests}
use Rattle.std.proofs.lemmas.List.{length_push}
use Rattle.bm_link.specs.Carries.{Carried, has_asked, with_order}
use Rattle.bm_session.specs.declared.event.Event.{Event}
use Rattle.bm_session.proofs.Pushed.{next}
use Rattle.bm_session.specs.Trace.{Trace, begins_session, is_fresh, items, productive, refusal, refuses}
use Rattle.bm_world.specs.declared.step.Step.TheVariants.{Hear, Drain as DrainStep}
use Rattle.bm_world.specs.World.{World}
use Rattle.bm_outbox.specs.declared.outbox_entry.OutboxEntry.{OutboxEntry}
use Rattle.bm_replay.specs.Schedule.{Worker, Make, is_own_step, is_schedule_from, after, worker_after}
use Rattle.bm_wired.specs.Cuts.{Joined, passed}
use Rattle.bm_wired.specs.Wired.{Wired, ordered, EntryIsSayable}
use Rattle.bm_wired.proofs.Sim.{Downward, down_bytes}
use Rattle.bm_wired.proofs.Framework.{takes}
use Rattle.bm_wired.proofs.Parts.{all-append}
use Rattle.bm_wired.proofs.Easy.{shows}
use Rattle.bm_wired.proofs.Joint.{Joint, Stepped, Side, AreDown, IsKept, Fits, scene, drop-whole, passed-same, kept-next, down-next, down-more, side-quiet}

-- the lane and its worker after a move
abbrev pub made : Joined → Wired → Joined
made x v =
    record x {
      wired = record v { up = passed x.whole x.wired.up v.up; down = passed x.whole x.wired.down v.down };
      told = x.told ++ drop (length x.wired.core.reports) v.core.reports;
    }

pub told-same : (x : Joined) → x.told ++ drop (length x.wired.core.reports) x.wired.core.reports ≡ x.told ++ []
told-same x = ap (λ rs. x.told ++ rs) (drop-whole x.wired.core.reports)

pub side-same : (x : Joined) (t : Trace) (w : Worker) → Side t x.wired.core x.wired.up x.link x.backlog x.whole x.heard w → Side t x.wired.core (passed x.whole x.wired.up x.wired.up) x.link x.backlog x.whole x.heard w
side-same x t w s = subst (λ up. Side t x.wired.core up x.link x.backlog x.whole x.heard w) (sym (passed-same x.whole x.wired.up)) s

-- nothing but what waits changes
pub make-idle : (c : ℕ) (x : Joined) (w : Worker) (outbox : List OutboxEntry) → Joint x w → AllByRecursion EntryIsSayable outbox → Stepped c x w (made x (record x.wired { outbox = outbox }))
make-idle c x w outbox j waits = record {
  acts = [];
  worker = w;
  scheduled = refl;
  same = refl;
  told = told-same x;
  parts = record {
    put = j.parts.put;
    waits = waits;
    kept = j.parts.kept;
    down = subst (AreDown x.wired.lane.trace) (sym (passed-same x.whole x.wired.down)) j.parts.down;
    side = side-same x x.wired.lane.trace w j.parts.side;
  };
}

-- the master asks something else

asked-orders : (carry : Carried) → (has_asked carry).orders ≡ carry.orders
asked-orders carry = go (nat_lt carry.next_ask (2 ^ 63))
  where
    go : (b : Bool) → (cond {A = Carried} b (record carry { next_ask = carry.next_ask + 1 }) carry).orders ≡ carry.orders
    go true = refl
    go false = refl

pub make-Inquire : (c : ℕ) (x : Joined) (w : Worker) (d : Downward) → Joint x w → Fits x.wired.lane.trace d
    → Stepped c x w (made x (record x.wired { carried = has_asked x.wired.carried; down = x.wired.down ++ down_bytes d ∷ [] }))
make-Inquire c x w d j f = record {
  acts = [];
  worker = w;
  scheduled = refl;
  same = refl;
  told = told-same x;
  parts = record {
    put = j.parts.put;
    waits = j.parts.waits;
    kept = subst (AllByRecursion (IsKept x.wired.lane.trace)) (sym (asked-orders x.wired.carried)) j.parts.kept;
    down = down-more x.whole x.wired.lane.trace x.wired.down (d ∷ []) j.parts.down (f, tt);
    side = side-same x x.wired.lane.trace w j.parts.side;
  };
}

-- an order that is taken

pub make-order : (c : ℕ) (x : Joined) (w : Worker) (e : Event) (d : Downward) (n : ℕ) → Joint x w → refusal x.wired.lane.trace e ≡ None → begins_session (next x.wired.lane.trace e) ≡ false → is_fresh (next x.wired.lane.trace e) ≡ false
    → ((k : ℕ) → refuses x.wired.lane.trace k e ≡ false) → is_own_step (Hear e) ≡ true → worker_after (scene c x w) (Make (Hear e)) ≡ w
    → Fits (x.wired.lane.trace ++ e ∷ []) d → length (x.wired.lane.trace ++ e ∷ []) ≤ c
    → Stepped c x w (made x (ordered x.wired e (with_order x.wired.carried (record { seq = n; bytes = down_bytes d })) (down_bytes d)))
make-order c x w e d n j r b f nr own still fit l = record {
  acts = Make (Hear e) ∷ [];
  worker = w;
  scheduled = ap (λ a. a && is_schedule_from (after (scene c x w) (Make (Hear e))) []) own;
  same = ap (λ (v : World). record { lane = v; worker = worker_after (scene c x w) (Make (Hear e)) }) (takes c x.wired.shown x.wired.lane.trace e r few)
      ∙ ap (λ (v : Worker). record { lane = record { capacity = c; trace = x.wired.lane.trace ++ e ∷ []; shown = x.wired.shown }; worker = v }) still;
  told = told-same x;
  parts = record {
    put = refl;
    waits = j.parts.waits;
    kept = all-append (IsKept (x.wired.lane.trace ++ e ∷ [])) x.wired.carried.orders (record { seq = n; bytes = down_bytes d } ∷ []) (kept-next x.wired.lane.trace e x.wired.carried.orders b j.parts.kept) ((d, refl, fit), tt);
    down = down-more x.whole (x.wired.lane.trace ++ e ∷ []) x.wired.down (d ∷ []) (down-next x.wired.lane.trace e x.wired.down b j.parts.down) (fit, tt);
    side = side-same x (x.wired.lane.trace ++ e ∷ []) w (side-quiet x.wired.lane.trace e x.wired.core x.wired.up x.link x.backlog x.whole x.heard w b f nr j.parts.side);
  };
}
  where
    few : length x.wired.lane.trace < c
    few = let size : length (x.wired.lane.trace ++ e ∷ []) ≡ length x.wired.lane.trace + 1 = length_push x.wired.lane.trace e in omega arith

-- a drain

pub make-Drain : (c : ℕ) (x : Joined) (w : Worker) → Joint x w → x.wired.shown < length x.wired.lane.put → Stepped c x w (made x (record x.wired { shown = x.wired.shown + 1 }))
make-Drain c x w j h = record {
  acts = Make DrainStep ∷ [];
  worker = w;
  scheduled = refl;
  same = ap (λ (l : World). record { lane = l; worker = w }) (shows c x.wired less);
  told = told-same x;
  parts = record {
    put = j.parts.put;
    waits = j.parts.waits;
    kept = j.parts.kept;
    down = subst (AreDown x.wired.lane.trace) (sym (passed-same x.whole x.wired.down)) j.parts.down;
    side = side-same x x.wired.lane.trace w j.parts.side;
  };
}
  where
    shown-below : x.wired.shown < length (items x.wired.lane.trace)
    shown-below = subst (λ xs. x.wired.shown < length xs) j.parts.put h

    less : nat_lt x.wired.shown (productive x.wired.lane.trace) ≡ true
    less = grind (arith, nat_tests)
