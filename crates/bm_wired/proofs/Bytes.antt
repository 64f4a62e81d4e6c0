-- A run over bytes is a run over messages.
use Rattle.std.proofs.Common.{◌≡◌, refl, sym, ◌∙◌, ap, subst, ℕ, ◌+◌, Bool, true, false, List, [], ◌∷◌, ◌++◌, length, take, drop, Option, inl, inr, append-nil}
use lib.Seq.{take-nil}
use Rattle.std.specs.Prelude.{Result, Ok, Err}
use Rattle.websocket.specs.declared.protocol.config.Role.TheVariants.{Server, Client}
use Rattle.bm_lane.specs.Ends.{Heard}
use Rattle.bm_lane.specs.Hearing.{Hears}
use Rattle.bm_lane.specs.declared.refusals.HearRefusal.{HearRefusal}
use Rattle.bm_link.specs.Asks.{ask_bytes}
use Rattle.bm_link.specs.Carries.{Carried, carried_after, has_asked}
use Rattle.bm_link.specs.Incoming.{IsEventOf}
use Rattle.bm_link.specs.Orders.{start_bytes, interrupt_bytes, with_start, with_interrupt}
use Rattle.bm_link.specs.Received.{AreSaid, hearing_of}
use Rattle.bm_msg.specs.declared.incoming.Incoming.{Incoming}
use Rattle.bm_session.specs.Trace.{commands, orders}
use Rattle.bm_session.specs.declared.event.Event.{Event}
use Rattle.bm_session.specs.declared.event.Event.TheVariants.{Go, Stop}
use Rattle.bm_session.specs.declared.reply.Reply.{Reply}
use Rattle.bm_worker_session.specs.Sessions.{requests_of}
use Rattle.bm_wired.specs.Bytes.{OverBytes, holding, StepsOver, GoesOver, Writes, left, bytes_apart, BytesAreMessages, BytesAreLogged, AllBytesAreLogged}
use Rattle.bm_wired.specs.Cuts.{Joined, Step, Make, Resend, Break, Leave, Lose, Meet, Begin, Apart, IsFree, Steps, Goes, passed, begun_by}
use Rattle.bm_wired.specs.Wired.{Wired, Move, Moves, Start, Interrupt, Inquire, Turn, Wait, Tell, Listen, Drain, Look, Orders, TurnsBy, reply_in, bytes_in, ordered}
use Rattle.bm_wired.specs.Service.{IsFrameOf, answers_to_send}
use Rattle.bm_wired.proofs.Joint.{take-front, passed-same, passed-rest}
use Rattle.bm_wired.proofs.CutMain.{cuts_are_logged, all_is_logged}
use Rattle.bm_wired.proofs.Ways.{Way, IsNext, empty-way, way-cut, way-writes, way-reads, way-take, writes-none}

-- ---- moves that read nothing are the same over any queues

abbrev behind : List (List ℕ) → List (List ℕ) → Wired → Wired
behind us ds w = record w { up = us ++ w.up; down = ds ++ w.down }

abbrev with_queues : List (List ℕ) → List (List ℕ) → Wired → Wired
with_queues us ds w = record w { up = us; down = ds }

same-queues : (us ds : List (List ℕ)) (v : Wired) (a b : List (List ℕ)) → us ≡ a → ds ≡ b → with_queues us ds v ≡ with_queues a b v
same-queues us ds v a b e g = ap (λ q. with_queues q ds v) e ∙ ap (λ q. with_queues a q v) g

-- it wrote nothing
silent : (us ds : List (List ℕ)) (v w : Wired) → w ≡ with_queues [] [] v → behind us ds w ≡ with_queues us ds v
silent us ds v w e = ap (behind us ds) e ∙ same-queues (us ++ []) (ds ++ []) v us ds (append-nil us) (append-nil ds)

-- it wrote to the worker, or to the lane
wrote-down : (us ds ms : List (List ℕ)) (v w : Wired) → w ≡ with_queues [] ms v → behind us ds w ≡ with_queues us (ds ++ ms) v
wrote-down us ds ms v w e = ap (behind us ds) e ∙ same-queues (us ++ []) (ds ++ ms) v us (ds ++ ms) (append-nil us) refl

wrote-up : (us ds ms : List (List ℕ)) (v w : Wired) → w ≡ with_queues ms [] v → behind us ds w ≡ with_queues (us ++ ms) ds v
wrote-up us ds ms v w e = ap (behind us ds) e ∙ same-queues (us ++ ms) (ds ++ []) v (us ++ ms) ds refl (append-nil ds)

orders-anywhere : (us ds : List (List ℕ)) (v w : Wired) (e : Event) (carry : Carried) (bytes : List ℕ) → Orders (with_queues [] [] v) e carry bytes w → Orders (with_queues us ds v) e carry bytes (behind us ds w)
orders-anywhere us ds v w e carry bytes (inl y) = inl (y.0, wrote-down us ds (bytes ∷ []) (ordered v e carry bytes) w y.1)
orders-anywhere us ds v w e carry bytes (inr y) = inr (y.0, y.1, silent us ds v w y.2)

anywhere : (m : Move) (us ds : List (List ℕ)) (v w : Wired) → Moves (with_queues [] [] v) m w → Moves (with_queues us ds v) m (behind us ds w)
anywhere (Start argv) us ds v w h = (h.0, orders-anywhere us ds v w Go (with_start v.lane.trace argv v.carried) (start_bytes (orders v.lane.trace) (commands v.lane.trace) argv) h.1)
anywhere (Interrupt k) us ds v w h = orders-anywhere us ds v w (Stop k) (with_interrupt v.lane.trace k v.carried) (interrupt_bytes (orders v.lane.trace) k) h
anywhere (Inquire a) us ds v w h = (h.0, h.1, wrote-down us ds (ask_bytes v.carried.next_ask a ∷ []) (record v { carried = has_asked v.carried }) w h.2)
anywhere Turn us ds v w h = let none : [] ≡ h.0 ∷ h.1 = h.5 in absurd cc
anywhere (Wait outbox) us ds v w h = (h.0, silent us ds (record v { outbox = outbox }) w h.1)
anywhere Tell us ds v w h = (h.0, h.1, h.2, h.3, wrote-up us ds (bytes_in (requests_of h.0)) (record v { core = h.2; outbox = h.1 }) w h.4)
anywhere Listen us ds v w h = let none : [] ≡ h.0 ∷ h.1 = h.3 in absurd cc
anywhere Drain us ds v w h = (h.0, silent us ds (record v { shown = v.shown + 1 }) w h.1)
anywhere Look us ds v w h = silent us ds v w h

free-anywhere : (m : Move) (x : Joined) (us ds : List (List ℕ)) → IsFree (holding x [] []) m → IsFree (holding x us ds) m
free-anywhere (Start argv) x us ds h = tt
free-anywhere (Interrupt k) x us ds h = tt
free-anywhere (Inquire a) x us ds h = tt
free-anywhere Turn x us ds h = tt
free-anywhere (Wait outbox) x us ds h = tt
free-anywhere Tell x us ds h = h
free-anywhere Listen x us ds h = h
free-anywhere Drain x us ds h = tt
free-anywhere Look x us ds h = tt

-- ---- what is under way behind a step

passed-behind : (b : Bool) (us ms : List (List ℕ)) → us ++ passed b [] ms ≡ passed b us (us ++ ms)
passed-behind true us ms = refl
passed-behind false us ms = append-nil us ∙ sym (take-front us ms)

lost : (b : Bool) (ms : List (List ℕ)) → b ≡ false → passed b [] ms ≡ []
lost true ms e = absurd cc
lost false ms e = refl

-- the messages under way, in these bytes
record Under (us ds : List (List ℕ)) (x : OverBytes) : Type 0 where
  up : Way Client x.ends.whole us x.up
  down : Way Server x.ends.whole ds x.down

-- a step over messages that leads to the same
record Stepped (x : OverBytes) (us ds : List (List ℕ)) (y : OverBytes) : Type 0 where
  one : Step
  us2 : List (List ℕ)
  ds2 : List (List ℕ)
  steps : Steps (holding x.ends us ds) one (holding y.ends us2 ds2)
  under : Under us2 ds2 y

same-holding : (x : Joined) (us ds a b : List (List ℕ)) → us ≡ a → ds ≡ b → holding x us ds ≡ holding x a b
same-holding x us ds a b e g = ap (λ q. holding x q ds) e ∙ ap (λ q. holding x a q) g

-- the ends, with what they wrote behind what was under way
abbrev written : List (List ℕ) → List (List ℕ) → Joined → Joined
written us ds x = holding x (us ++ x.wired.up) (ds ++ x.wired.down)

way-up : (x y : OverBytes) (us ms : List (List ℕ)) → Way Client x.ends.whole us x.up → Writes Client ms x.up y.up → y.ends.whole ≡ x.ends.whole → (x.ends.whole ≡ false → ms ≡ []) → Way Client y.ends.whole (us ++ ms) y.up
way-up x y us ms w h same none = subst (λ b. Way Client b (us ++ ms) y.up) (sym same) (way-writes Client x.ends.whole us ms x.up y.up w h none)

way-down : (x y : OverBytes) (ds ms : List (List ℕ)) → Way Server x.ends.whole ds x.down → Writes Server ms x.down y.down → y.ends.whole ≡ x.ends.whole → (x.ends.whole ≡ false → ms ≡ []) → Way Server y.ends.whole (ds ++ ms) y.down
way-down x y ds ms w h same none = subst (λ b. Way Server b (ds ++ ms) y.down) (sym same) (way-writes Server x.ends.whole ds ms x.down y.down w h none)

-- ---- steps that read nothing

-- what a move leads to
abbrev after_move : Joined → Wired → Joined
after_move x w =
    record x {
      wired = record w { up = passed x.whole x.wired.up w.up; down = passed x.whole x.wired.down w.down };
      told = x.told ++ drop (length x.wired.core.reports) w.core.reports;
    }

made : (x : Joined) (us ds : List (List ℕ)) (w : Wired) (y : Joined) → y ≡ after_move (holding x [] []) w → written us ds y ≡ after_move (holding x us ds) (behind us ds w)
made x us ds w y e =
    ap (written us ds) e
    ∙ same-holding (after_move (holding x [] []) w) (us ++ passed x.whole [] w.up) (ds ++ passed x.whole [] w.down) (passed x.whole us (us ++ w.up)) (passed x.whole ds (ds ++ w.down)) (passed-behind x.whole us w.up) (passed-behind x.whole ds w.down)

step-made : (m : Move) (x y : OverBytes) (us ds : List (List ℕ)) → Under us ds x → Steps (holding x.ends [] []) (Make m) y.ends → Writes Client y.ends.wired.up x.up y.up → Writes Server y.ends.wired.down x.down y.down → Stepped x us ds y
step-made m x y us ds u h a b = record {
  one = Make m;
  us2 = us ++ y.ends.wired.up;
  ds2 = ds ++ y.ends.wired.down;
  steps = (behind us ds h.0, free-anywhere m x.ends us ds h.1, anywhere m us ds x.ends.wired h.0 h.2, made x.ends us ds h.0 y.ends h.3);
  under = record {
    up = way-up x y us y.ends.wired.up u.up a (ap (λ (q : Joined). q.whole) h.3) (λ e. ap (λ (q : Joined). q.wired.up) h.3 ∙ lost x.ends.whole h.0.up e);
    down = way-down x y ds y.ends.wired.down u.down b (ap (λ (q : Joined). q.whole) h.3) (λ e. ap (λ (q : Joined). q.wired.down) h.3 ∙ lost x.ends.whole h.0.down e);
  };
}

step-Resend : (x y : OverBytes) (us ds : List (List ℕ)) → Under us ds x → Steps (holding x.ends [] []) Resend y.ends → Writes Client y.ends.wired.up x.up y.up → Writes Server y.ends.wired.down x.down y.down → Stepped x us ds y
step-Resend x y us ds u h a b = record {
  one = Resend;
  us2 = us ++ y.ends.wired.up;
  ds2 = ds ++ y.ends.wired.down;
  steps = (h.0, h.1, h.2, h.3, ap (written us ds) h.4 ∙ same-holding (record x.ends { backlog = h.1 }) (us ++ passed x.ends.whole [] (h.0.bytes ∷ [])) (ds ++ []) (passed x.ends.whole us (us ++ h.0.bytes ∷ [])) ds (passed-behind x.ends.whole us (h.0.bytes ∷ [])) (append-nil ds));
  under = record {
    up = way-up x y us y.ends.wired.up u.up a (ap (λ (q : Joined). q.whole) h.4) (λ e. ap (λ (q : Joined). q.wired.up) h.4 ∙ lost x.ends.whole (h.0.bytes ∷ []) e);
    down = way-down x y ds y.ends.wired.down u.down b (ap (λ (q : Joined). q.whole) h.4) (λ e. ap (λ (q : Joined). q.wired.down) h.4);
  };
}

-- the worker hears how it was taken up

begun : (x : Joined) (us ds : List (List ℕ)) (r : Bool) → written us ds (begun_by r (holding x [] [])) ≡ begun_by r (holding x us ds)
begun x us ds true = same-holding (begun_by true x) (us ++ []) (ds ++ []) us ds (append-nil us) (append-nil ds)
begun x us ds false = same-holding (begun_by false x) (us ++ []) (ds ++ []) us ds (append-nil us) (append-nil ds)

begun-whole : (x : Joined) (r : Bool) → (begun_by r (holding x [] [])).whole ≡ x.whole
begun-whole x true = refl
begun-whole x false = refl

begun-up : (x : Joined) (r : Bool) → (begun_by r (holding x [] [])).wired.up ≡ []
begun-up x true = refl
begun-up x false = refl

begun-down : (x : Joined) (r : Bool) → (begun_by r (holding x [] [])).wired.down ≡ []
begun-down x true = refl
begun-down x false = refl

step-Begin : (x y : OverBytes) (us ds : List (List ℕ)) → Under us ds x → Steps (holding x.ends [] []) Begin y.ends → Writes Client y.ends.wired.up x.up y.up → Writes Server y.ends.wired.down x.down y.down → Stepped x us ds y
step-Begin x y us ds u h a b = record {
  one = Begin;
  us2 = us ++ y.ends.wired.up;
  ds2 = ds ++ y.ends.wired.down;
  steps = (h.0, h.1, ap (written us ds) h.2 ∙ begun x.ends us ds h.0);
  under = record {
    up = way-up x y us y.ends.wired.up u.up a (ap (λ (q : Joined). q.whole) h.2 ∙ begun-whole x.ends h.0) (λ e. ap (λ (q : Joined). q.wired.up) h.2 ∙ begun-up x.ends h.0);
    down = way-down x y ds y.ends.wired.down u.down b (ap (λ (q : Joined). q.whole) h.2 ∙ begun-whole x.ends h.0) (λ e. ap (λ (q : Joined). q.wired.down) h.2 ∙ begun-down x.ends h.0);
  };
}

-- ---- connections end and begin

step-Break : (i l : ℕ) (x y : OverBytes) (us ds : List (List ℕ)) → Under us ds x → Steps (holding x.ends [] []) (Break i l) y.ends → Writes Client y.ends.wired.up (take i x.up) y.up → Writes Server y.ends.wired.down (take l x.down) y.down → Stepped x us ds y
step-Break i l x y us ds u h a b =
    let ups = way-take Client x.ends.whole us x.up i u.up in
    let downs = way-take Server x.ends.whole ds x.down l u.down in
    let up : y.up ≡ take i x.up = writes-none Client y.ends.wired.up (take i x.up) y.up a (ap (λ (q : Joined). q.wired.up) h ∙ take-nil i) in
    let down : y.down ≡ take l x.down = writes-none Server y.ends.wired.down (take l x.down) y.down b (ap (λ (q : Joined). q.wired.down) h ∙ take-nil l) in
    let cut : y.ends.whole ≡ false = ap (λ (q : Joined). q.whole) h in
    record {
      one = Break ups.0 downs.0;
      us2 = take ups.0 us;
      ds2 = take downs.0 ds;
      steps = ap (λ (q : Joined). holding q (take ups.0 us) (take downs.0 ds)) h;
      under = record {
        up = subst (λ (b : Bool). Way Client b (take ups.0 us) y.up) (sym cut) (subst (Way Client false (take ups.0 us)) (sym up) ups.1);
        down = subst (λ (b : Bool). Way Server b (take downs.0 ds) y.down) (sym cut) (subst (Way Server false (take downs.0 ds)) (sym down) downs.1);
      };
    }

step-Leave : (x y : OverBytes) (us ds : List (List ℕ)) → Under us ds x → Steps (holding x.ends [] []) Leave y.ends → Writes Client y.ends.wired.up x.up y.up → Writes Server y.ends.wired.down [] y.down → Stepped x us ds y
step-Leave x y us ds u h a b =
    let is : y.ends ≡ record x.ends { wired = record x.ends.wired { up = []; down = [] }; link = Apart; backlog = []; whole = false } = h.2 ∙ ap (λ (z : Joined). record z { link = Apart; backlog = [] }) h.1 in
    let up : y.up ≡ x.up = writes-none Client y.ends.wired.up x.up y.up a (ap (λ (q : Joined). q.wired.up) is) in
    let down : y.down ≡ [] = writes-none Server y.ends.wired.down [] y.down b (ap (λ (q : Joined). q.wired.down) is) in
    let cut : y.ends.whole ≡ false = ap (λ (q : Joined). q.whole) is in
    record {
      one = Leave;
      us2 = us;
      ds2 = [];
      steps = (holding h.0 us [], ap (λ (q : Joined). holding q us []) h.1, ap (λ (q : Joined). holding q us []) h.2);
      under = record {
        up = subst (λ (b : Bool). Way Client b us y.up) (sym cut) (subst (Way Client false us) (sym up) (way-cut Client x.ends.whole us x.up u.up));
        down = subst (Way Server y.ends.whole []) (sym down) (empty-way Server y.ends.whole);
      };
    }

step-Lose : (e : Event) (x y : OverBytes) (us ds : List (List ℕ)) → Under us ds x → Steps (holding x.ends [] []) (Lose e) y.ends → Writes Client y.ends.wired.up [] y.up → Writes Server y.ends.wired.down x.down y.down → Stepped x us ds y
step-Lose e x y us ds u h a b =
    let up : y.up ≡ [] = writes-none Client y.ends.wired.up [] y.up a (ap (λ (q : Joined). q.wired.up) h.4) in
    let down : y.down ≡ x.down = writes-none Server y.ends.wired.down x.down y.down b (ap (λ (q : Joined). q.wired.down) h.4) in
    let cut : y.ends.whole ≡ false = ap (λ (q : Joined). q.whole) h.4 in
    record {
      one = Lose e;
      us2 = [];
      ds2 = ds;
      steps = (h.0, h.1, h.2, h.3, ap (λ (q : Joined). holding q [] ds) h.4);
      under = record {
        up = subst (Way Client y.ends.whole []) (sym up) (empty-way Client y.ends.whole);
        down = subst (λ (b : Bool). Way Server b ds y.down) (sym cut) (subst (Way Server false ds) (sym down) (way-cut Server x.ends.whole ds x.down u.down));
      };
    }

step-Meet : (resumed : Bool) (named : Option (List ℕ)) (x y : OverBytes) (us ds : List (List ℕ)) → Steps (holding x.ends [] []) (Meet resumed named) y.ends → Writes Client y.ends.wired.up [] y.up → Writes Server y.ends.wired.down [] y.down → Stepped x us ds y
step-Meet resumed named x y us ds h a b =
    let up : y.up ≡ [] = writes-none Client y.ends.wired.up [] y.up a (ap (λ (q : Joined). q.wired.up) h.3) in
    let new : y.ends.whole ≡ true = ap (λ (q : Joined). q.whole) h.3 in
    record {
      one = Meet resumed named;
      us2 = [];
      ds2 = y.ends.wired.down;
      steps = (h.0, h.1, h.2, ap (λ (q : Joined). holding q [] q.wired.down) h.3);
      under = record {
        up = subst (Way Client y.ends.whole []) (sym up) (empty-way Client y.ends.whole);
        down = way-writes Server y.ends.whole [] y.ends.wired.down [] y.down (empty-way Server y.ends.whole) b (λ e. absurd cc);
      };
    }

-- ---- turns that read

-- a lane that took an event, and a worker that heard a message
abbrev turned : Wired → Heard → Event → Wired
turned w lane e = record w { lane = lane; carried = carried_after w.carried e }

abbrev heard_by : Wired → Incoming → Wired
heard_by w a = record w { core = (hearing_of w.core a).core }

abbrev replied : Wired → Incoming → List (List ℕ)
replied w a = reply_in (hearing_of w.core a).reply

module _ (x y : OverBytes) (us ds : List (List ℕ)) (u : Under us ds x) (m f rest : List ℕ) where
  turns : IsFrameOf Client m f → x.up ≡ f ++ rest → Steps (holding x.ends (m ∷ []) []) (Make Turn) y.ends → y.up ≡ left y.ends.wired.up f rest → Writes Server y.ends.wired.down x.down y.down → Stepped x us ds y
  turns h at s l b = go s.2.3 s.2.7 s.2.8
    where
      next : IsNext Client x.ends.whole us m rest
      next = way-reads Client x.ends.whole us x.up m f rest u.up h at

      event : IsEventOf m s.2.2
      event = let one : m ∷ [] ≡ s.2.0 ∷ s.2.1 = s.2.5 in let head : s.2.0 ≡ m = cc in subst (λ q. IsEventOf q s.2.2) head s.2.6

      none : s.2.1 ≡ []
      none = let one : m ∷ [] ≡ s.2.0 ∷ s.2.1 = s.2.5 in cc

      go : (r : Result Reply (Event × HearRefusal)) → Hears x.ends.wired.lane s.2.2 r s.2.4 → TurnsBy (with_queues (m ∷ []) [] x.ends.wired) s.2.2 s.2.1 r s.2.4 s.0 → Stepped x us ds y
      go (Ok r) hears t =
          let is : y.ends ≡ after_move (holding x.ends (m ∷ []) []) (with_queues [] (answers_to_send r) (turned x.ends.wired s.2.4 s.2.2)) = s.3 ∙ ap (after_move (holding x.ends (m ∷ []) [])) (t ∙ ap (λ q. with_queues q (answers_to_send r) (turned x.ends.wired s.2.4 s.2.2)) none) in
          let gone : y.ends.wired.up ≡ [] = ap (λ (q : Joined). q.wired.up) is ∙ passed-rest x.ends.whole m [] in
          let up : y.up ≡ rest = l ∙ ap (λ q. left q f rest) gone in
          let same : y.ends.whole ≡ x.ends.whole = ap (λ (q : Joined). q.whole) is in
          record {
            one = Make Turn;
            us2 = next.others;
            ds2 = ds ++ y.ends.wired.down;
            steps = (
              with_queues next.others (ds ++ answers_to_send r) (turned x.ends.wired s.2.4 s.2.2),
              tt,
              (m, next.others, s.2.2, Ok r, s.2.4, next.are, event, hears, refl),
              ap (λ (q : Joined). holding q next.others (ds ++ q.wired.down)) is
                  ∙ same-holding (after_move (holding x.ends (m ∷ []) []) (with_queues [] (answers_to_send r) (turned x.ends.wired s.2.4 s.2.2))) next.others (ds ++ passed x.ends.whole [] (answers_to_send r)) (passed x.ends.whole us next.others) (passed x.ends.whole ds (ds ++ answers_to_send r))
                  (sym (ap (λ q. passed x.ends.whole q next.others) next.are ∙ passed-rest x.ends.whole m next.others)) (passed-behind x.ends.whole ds (answers_to_send r)),
            );
            under = record {
              up = subst (λ q. Way Client q next.others y.up) (sym same) (subst (Way Client x.ends.whole next.others) (sym up) next.behind);
              down = way-down x y ds y.ends.wired.down u.down b same (λ e. ap (λ (q : Joined). q.wired.down) is ∙ lost x.ends.whole (answers_to_send r) e);
            };
          }
      go (Err back) hears t =
          let is : y.ends ≡ after_move (holding x.ends (m ∷ []) []) (with_queues (m ∷ []) [] x.ends.wired) = s.3 ∙ ap (after_move (holding x.ends (m ∷ []) [])) t.1 in
          let kept : y.ends.wired.up ≡ m ∷ [] = ap (λ (q : Joined). q.wired.up) is ∙ passed-same x.ends.whole (m ∷ []) in
          let quiet : y.ends.wired.down ≡ [] = ap (λ (q : Joined). q.wired.down) is ∙ passed-same x.ends.whole [] in
          let up : y.up ≡ x.up = l ∙ ap (λ q. left q f rest) kept ∙ sym at in
          let down : y.down ≡ x.down = writes-none Server y.ends.wired.down x.down y.down b quiet in
          let same : y.ends.whole ≡ x.ends.whole = ap (λ (q : Joined). q.whole) is in
          record {
            one = Make Turn;
            us2 = us;
            ds2 = ds;
            steps = (
              with_queues us ds x.ends.wired,
              tt,
              (m, next.others, s.2.2, Err back, s.2.4, next.are, event, hears, (t.0, refl)),
              ap (λ (q : Joined). holding q us ds) is
                  ∙ same-holding (after_move (holding x.ends (m ∷ []) []) (with_queues (m ∷ []) [] x.ends.wired)) us ds (passed x.ends.whole us us) (passed x.ends.whole ds ds) (sym (passed-same x.ends.whole us)) (sym (passed-same x.ends.whole ds)),
            );
            under = record {
              up = subst (λ q. Way Client q us y.up) (sym same) (subst (Way Client x.ends.whole us) (sym up) u.up);
              down = subst (λ q. Way Server q ds y.down) (sym same) (subst (Way Server x.ends.whole ds) (sym down) u.down);
            };
          }

  listens : IsFrameOf Server m f → x.down ≡ f ++ rest → Steps (holding x.ends [] (m ∷ [])) (Make Listen) y.ends → y.down ≡ left y.ends.wired.down f rest → Writes Client y.ends.wired.up x.up y.up → Stepped x us ds y
  listens h at s l a = record {
    one = Make Listen;
    us2 = us ++ y.ends.wired.up;
    ds2 = next.others;
    steps = (
      with_queues (us ++ (replied x.ends.wired s.2.2)) next.others (heard_by x.ends.wired s.2.2),
      s.1,
      (m, next.others, s.2.2, next.are, told, refl),
      ap (λ (q : Joined). holding q (us ++ q.wired.up) next.others) is
          ∙ same-holding (after_move (holding x.ends [] (m ∷ [])) (with_queues (replied x.ends.wired s.2.2) [] (heard_by x.ends.wired s.2.2))) (us ++ passed x.ends.whole [] (replied x.ends.wired s.2.2)) next.others (passed x.ends.whole us (us ++ (replied x.ends.wired s.2.2))) (passed x.ends.whole ds next.others)
          (passed-behind x.ends.whole us (replied x.ends.wired s.2.2)) (sym (ap (λ q. passed x.ends.whole q next.others) next.are ∙ passed-rest x.ends.whole m next.others)),
    );
    under = record {
      up = way-up x y us y.ends.wired.up u.up a same (λ e. ap (λ (q : Joined). q.wired.up) is ∙ lost x.ends.whole (replied x.ends.wired s.2.2) e);
      down = subst (λ q. Way Server q next.others y.down) (sym same) (subst (Way Server x.ends.whole next.others) (sym down) next.behind);
    };
  }
    where
      next : IsNext Server x.ends.whole ds m rest
      next = way-reads Server x.ends.whole ds x.down m f rest u.down h at

      told : AreSaid m s.2.2
      told = let one : m ∷ [] ≡ s.2.0 ∷ s.2.1 = s.2.3 in let head : s.2.0 ≡ m = cc in subst (λ q. AreSaid q s.2.2) head s.2.4

      none : s.2.1 ≡ []
      none = let one : m ∷ [] ≡ s.2.0 ∷ s.2.1 = s.2.3 in cc

      is : y.ends ≡ after_move (holding x.ends [] (m ∷ [])) (with_queues (replied x.ends.wired s.2.2) [] (heard_by x.ends.wired s.2.2))
      is = s.3 ∙ ap (after_move (holding x.ends [] (m ∷ []))) (s.2.5 ∙ ap (λ q. with_queues (replied x.ends.wired s.2.2) q (heard_by x.ends.wired s.2.2)) none)

      down : y.down ≡ rest
      down = l ∙ ap (λ q. left q f rest) (ap (λ (q : Joined). q.wired.down) is ∙ passed-rest x.ends.whole m [])

      same : y.ends.whole ≡ x.ends.whole
      same = ap (λ (q : Joined). q.whole) is

-- ---- all steps

step : (s : Step) (x y : OverBytes) (us ds : List (List ℕ)) → Under us ds x → StepsOver x s y → Stepped x us ds y
step (Make Turn) x y us ds u h = turns x y us ds u h.0 h.1 h.2 h.3 h.4 h.5 h.6 h.7
step (Make Listen) x y us ds u h = listens x y us ds u h.0 h.1 h.2 h.3 h.4 h.5 h.6 h.7
step (Make (Start argv)) x y us ds u h = step-made (Start argv) x y us ds u h.0 h.1 h.2
step (Make (Interrupt k)) x y us ds u h = step-made (Interrupt k) x y us ds u h.0 h.1 h.2
step (Make (Inquire a)) x y us ds u h = step-made (Inquire a) x y us ds u h.0 h.1 h.2
step (Make (Wait outbox)) x y us ds u h = step-made (Wait outbox) x y us ds u h.0 h.1 h.2
step (Make Tell) x y us ds u h = step-made Tell x y us ds u h.0 h.1 h.2
step (Make Drain) x y us ds u h = step-made Drain x y us ds u h.0 h.1 h.2
step (Make Look) x y us ds u h = step-made Look x y us ds u h.0 h.1 h.2
step Resend x y us ds u h = step-Resend x y us ds u h.0 h.1 h.2
step (Break i l) x y us ds u h = step-Break i l x y us ds u h.0 h.1 h.2
step Leave x y us ds u h = step-Leave x y us ds u h.0 h.1 h.2
step (Lose e) x y us ds u h = step-Lose e x y us ds u h.0 h.1 h.2
step (Meet resumed named) x y us ds u h = step-Meet resumed named x y us ds h.0 h.1 h.2
step Begin x y us ds u h = step-Begin x y us ds u h.0 h.1 h.2

goes : (ss : List Step) (x y : OverBytes) (us ds : List (List ℕ)) → Under us ds x → GoesOver x ss y → (ms : List Step) × (us2 : List (List ℕ)) × (ds2 : List (List ℕ)) × Goes (holding x.ends us ds) ms (holding y.ends us2 ds2)
goes [] x y us ds u h = ([], us, ds, ap (λ (q : OverBytes). holding q.ends us ds) h)
goes (s ∷ ss) x y us ds u h =
    let a : Stepped x us ds h.0 = step s x h.0 us ds u h.1 in
    let r = goes ss h.0 y a.us2 a.ds2 a.under h.2 in
    (a.one ∷ r.0, r.1, r.2, (holding h.0.ends a.us2 a.ds2, a.steps, r.3))

-- ---- the laws

pub bytes_are_messages : BytesAreMessages
bytes_are_messages id capacity resumable ss y h =
    let r = goes ss (bytes_apart id capacity resumable) y [] [] (record { up = empty-way Client false; down = empty-way Server false }) h in
    (r.0, holding y.ends r.1 r.2, r.3, refl)

pub bytes_are_logged : BytesAreLogged
bytes_are_logged id capacity resumable ss y k h =
    let r = goes ss (bytes_apart id capacity resumable) y [] [] (record { up = empty-way Client false; down = empty-way Server false }) h in
    cuts_are_logged id capacity resumable r.0 (holding y.ends r.1 r.2) k r.3

pub all_bytes_are_logged : AllBytesAreLogged
all_bytes_are_logged id capacity resumable ss y k h heard started none shown =
    let r = goes ss (bytes_apart id capacity resumable) y [] [] (record { up = empty-way Client false; down = empty-way Server false }) h in
    all_is_logged id capacity resumable r.0 (holding y.ends r.1 r.2) k r.3 heard started none shown
