-- A turn of the master's link, over connections that are cut.
use Rattle.std.proofs.Common.{◌≡◌, refl, sym, ◌∙◌, ap, subst, ℕ, ◌+◌, ◌≤◌, ◌<◌, ◌^◌, Bool, true, false, cond, not, ◌&&◌, List, [], ◌∷◌, ◌++◌, map, filter, length, Some, None, arith, inl, inr}
use Rattle.std.specs.Prelude.{nat_lt, nat_le, ◌==◌, slice_get, option_map, Result, Ok, Err}
use Rattle.std.specs.List.{AllByRecursion}
use Rattle.std.proofs.lemmas.Bool.Decides.{nat_tests}
use Rattle.std.proofs.lemmas.List.{length_push}
use Rattle.std.proofs.lemmas.Option.{slice_get_within}
use Rattle.bm_lane.specs.Ends.{Heard}
use Rattle.bm_lane.specs.Hearing.{with_event, Hears}
use Rattle.bm_lane.specs.declared.refusals.HearRefusal.{HearRefusal}
use Rattle.bm_link.specs.Carries.{Carried, carried_after}
use Rattle.bm_link.specs.Incoming.{IsEventOf}
use Rattle.bm_session.specs.declared.event.Event.{Event}
use Rattle.bm_session.specs.declared.event.Event.TheVariants.{In}
use Rattle.bm_session.specs.declared.event.Body.TheVariants.{Answered}
use Rattle.bm_session.specs.declared.reply.Reply.{Reply}
use Rattle.bm_session.specs.Trace.{commands, refusal, refuses, reply, was_order}
use Rattle.bm_work.specs.Stream.{Report}
use Rattle.bm_work.specs.WorkerAnswers.{is_exception}
use Rattle.bm_work.specs.declared.sent.Sent.{Sent}
use Rattle.bm_work.specs.declared.worker_answer.WorkerAnswer.{WorkerAnswer}
use Rattle.bm_world.specs.declared.step.Step.TheVariants.{Hear}
use Rattle.bm_world.specs.World.{World}
use Rattle.bm_replay.specs.Schedule.{Worker, Deliver, Respond, as_heard, command_of, is_allowed, is_schedule_from, after, lane_after, requests_taken}
use Rattle.bm_replay.specs.Wire.{CanBeSaid}
use Rattle.bm_replay.proofs.Sessions.{started-below}
use Rattle.bm_replay.proofs.SmallNumbers.{IsSmall, small}
use Rattle.bm_wired.specs.Cuts.{Joined, passed}
use Rattle.bm_wired.specs.Wired.{Wired, Moves, Turn, TurnsBy}
use Rattle.bm_wired.specs.Service.{answers_to_send, IsSayable}
use Rattle.bm_wired.proofs.Sim.{Upward, asks_up, answers_up, up_bytes, FitsUp, answers_down, lane_of}
use Rattle.bm_wired.proofs.Framework.{takes}
use Rattle.bm_wired.proofs.Parts.{all-map, past-push, taken-stays}
use Rattle.bm_wired.proofs.Turns.{all-get, below, unordered, IsAskedBy, asked-by, can-be-said}
use Rattle.bm_wired.proofs.ReadBack.{sent-event, reply-event}
use Rattle.bm_wired.proofs.Joint.{Joint, Stepped, Knowing, Flows, AreDown, IsKept, grown, scene, counts, kept-next, down-next, down-more, passed-rest, more-taken}
use Rattle.bm_wired.proofs.CutLane.{made, told-same, make-idle}

keep-if : {A : Type 0} (P : A → Type 0) (b : Bool) (x : A) (xs : List A) → P x → AllByRecursion P xs → AllByRecursion P (cond b (x ∷ xs) xs)
keep-if P true x xs h t = (h, t)
keep-if P false x xs h t = t

all-filter : {A : Type 0} (P : A → Type 0) (p : A → Bool) (xs : List A) → AllByRecursion P xs → AllByRecursion P (filter p xs)
all-filter P p [] h = tt
all-filter P p (x ∷ xs) h = keep-if P (p x) x (filter p xs) h.0 (all-filter P p xs h.1)

-- the response to a request

turn-response : (c : ℕ) (x : Joined) (w : Worker) (n : ℕ) (a : WorkerAnswer) (us : List Upward) (m : List ℕ) → Joint x w → x.heard ≡ true → (k : Knowing x.wired.lane.trace x.wired.core x.wired.up x.link x.backlog x.whole w)
    → x.wired.up ≡ m ∷ map up_bytes us → AllByRecursion (FitsUp x.wired.core) (answers_up n a ∷ us) → Flows (requests_taken x.wired.lane.trace) us k.upward.end
    → refusal x.wired.lane.trace (In n (Answered (is_exception a))) ≡ None → length (x.wired.lane.trace ++ In n (Answered (is_exception a)) ∷ []) ≤ c
    → Stepped c x w (made x (record x.wired { lane = with_event x.wired.lane (In n (Answered (is_exception a))); carried = carried_after x.wired.carried (In n (Answered (is_exception a))); up = map up_bytes us; down = x.wired.down ++ [] }))
turn-response c x w n a us m j heard k up fits flows r l = record {
  acts = Respond n (is_exception a) ∷ [];
  worker = w;
  scheduled = ap (λ b. b && is_schedule_from (after (scene c x w) (Respond n (is_exception a))) []) (free (is_exception a) refl);
  same = ap (λ (v : World). record { lane = v; worker = w }) (takes c x.wired.shown x.wired.lane.trace (In n (Answered (is_exception a))) r few);
  told = told-same x;
  parts = record {
    put = refl;
    waits = j.parts.waits;
    kept = all-filter (IsKept (x.wired.lane.trace ++ In n (Answered (is_exception a)) ∷ [])) (λ (o : Sent). not (o.seq == n)) x.wired.carried.orders (kept-next x.wired.lane.trace (In n (Answered (is_exception a))) x.wired.carried.orders refl j.parts.kept);
    down = down-more x.whole (x.wired.lane.trace ++ In n (Answered (is_exception a)) ∷ []) x.wired.down [] (down-next x.wired.lane.trace (In n (Answered (is_exception a))) x.wired.down refl j.parts.down) tt;
    side = inl (
      heard,
      record {
        reports = k.reports;
        past = past-push x.wired.lane.trace (In n (Answered (is_exception a))) x.wired.core w.ran refl (λ i y. (n, a, refused i (is_exception a) y, fits.0.0)) k.past;
        sayable = k.sayable;
        answered = subst (λ i. AllByRecursion (λ q. q < i) x.wired.core.answered) (sym same) k.answered;
        upward = record { ups = us; is = ap (λ q. passed x.whole q (map up_bytes us)) up ∙ passed-rest x.whole m (map up_bytes us); fits = fits.1; end = k.upward.end; flows = subst (λ i. Flows i us k.upward.end) (sym same) flows };
        rest = k.rest;
        unlike = k.unlike;
      },
    );
  };
}
  where
    same : requests_taken (x.wired.lane.trace ++ In n (Answered (is_exception a)) ∷ []) ≡ requests_taken x.wired.lane.trace
    same = taken-stays x.wired.lane.trace (In n (Answered (is_exception a))) refl refl

    few : length x.wired.lane.trace < c
    few = let size : length (x.wired.lane.trace ++ In n (Answered (is_exception a)) ∷ []) ≡ length x.wired.lane.trace + 1 = length_push x.wired.lane.trace (In n (Answered (is_exception a))) in omega arith

    refused : (i : ℕ) (f : Bool) → refuses x.wired.lane.trace i (In n (Answered f)) ≡ true → was_order x.wired.lane.trace i n ≡ true
    refused i true h = h
    refused i false h = cc

    free : (f : Bool) → is_exception a ≡ f → is_allowed (scene c x w) (Respond n f) ≡ true
    free false e = refl
    free true e = ap not (unordered x.wired.lane.trace x.wired.core w.ran n a k.past fits.0.0 e)

-- a request, for the first time or again

turn-request : (c : ℕ) (x : Joined) (w : Worker) (n : ℕ) (r : Report) (us : List Upward) (m : List ℕ) → Joint x w → x.heard ≡ true → (k : Knowing x.wired.lane.trace x.wired.core x.wired.up x.link x.backlog x.whole w)
    → x.wired.up ≡ m ∷ map up_bytes us → AllByRecursion (FitsUp x.wired.core) (asks_up n r ∷ us) → n ≤ requests_taken x.wired.lane.trace → Flows (grown (requests_taken x.wired.lane.trace) n) us k.upward.end
    → refusal x.wired.lane.trace (as_heard n r) ≡ None → length (x.wired.lane.trace ++ as_heard n r ∷ []) ≤ c
    → Stepped c x w (made x (record x.wired { lane = with_event x.wired.lane (as_heard n r); carried = carried_after x.wired.carried (as_heard n r); up = map up_bytes us; down = x.wired.down ++ answers_to_send (reply x.wired.lane.trace (as_heard n r)) }))
turn-request c x w n r us m j heard k up fits next-one flows ok l = record {
  acts = Deliver n ∷ [];
  worker = w;
  scheduled = ap (λ b. (b && nat_le n (requests_taken x.wired.lane.trace)) && is_schedule_from (after (scene c x w) (Deliver n)) []) there ∙ ap (λ b. b && is_schedule_from (after (scene c x w) (Deliver n)) []) least;
  same = ap (λ o. record { lane = lane_after (lane_of c x.wired) (option_map (λ q. Hear (as_heard n q)) o); worker = w }) got
      ∙ ap (λ (v : World). record { lane = v; worker = w }) (takes c x.wired.shown x.wired.lane.trace (as_heard n r) ok few);
  told = told-same x;
  parts = record {
    put = refl;
    waits = j.parts.waits;
    kept = subst (λ (q : Carried). AllByRecursion (IsKept (x.wired.lane.trace ++ as_heard n r ∷ [])) q.orders) (sym (facts.carries x.wired.carried)) (kept-next x.wired.lane.trace (as_heard n r) x.wired.carried.orders facts.goes_on j.parts.kept);
    down = subst (λ q. AreDown (x.wired.lane.trace ++ as_heard n r ∷ []) (passed x.whole x.wired.down (x.wired.down ++ q))) (sym facts.answered)
        (down-more x.whole (x.wired.lane.trace ++ as_heard n r ∷ []) x.wired.down (answers_down n facts.verdict ∷ []) (down-next x.wired.lane.trace (as_heard n r) x.wired.down facts.goes_on j.parts.down) ((low, had), tt));
    side = inl (
      heard,
      record {
        reports = k.reports;
        past = past-push x.wired.lane.trace (as_heard n r) x.wired.core w.ran facts.goes_on (λ i y. let z : refuses x.wired.lane.trace i (as_heard n r) ≡ false = facts.unrefusing i in cc) k.past;
        sayable = k.sayable;
        answered = all-map (λ q. q < requests_taken x.wired.lane.trace) (λ q. q < requests_taken (x.wired.lane.trace ++ as_heard n r ∷ [])) x.wired.core.answered
            (λ q h. let more : requests_taken x.wired.lane.trace ≤ requests_taken (x.wired.lane.trace ++ as_heard n r ∷ []) = more-taken x.wired.lane.trace (as_heard n r) facts.goes_on in omega arith) k.answered;
        upward = record { ups = us; is = ap (λ q. passed x.whole q (map up_bytes us)) up ∙ passed-rest x.whole m (map up_bytes us); fits = fits.1; end = k.upward.end; flows = subst (λ i. Flows i us k.upward.end) (sym count) flows };
        rest = k.rest;
        unlike = k.unlike;
      },
    );
  };
}
  where
    facts : IsAskedBy x.wired.lane.trace n (as_heard n r)
    facts = asked-by x.wired.lane.trace n r

    few : length x.wired.lane.trace < c
    few = let size : length (x.wired.lane.trace ++ as_heard n r ∷ []) ≡ length x.wired.lane.trace + 1 = length_push x.wired.lane.trace (as_heard n r) in omega arith

    low : n < 2 ^ 63
    low = let s : IsSmall x.wired.lane.trace = small x.wired.lane.trace j.agree.taken in let most : requests_taken x.wired.lane.trace ≤ 999999 = s.1 in omega arith

    least : nat_le n (requests_taken x.wired.lane.trace) ≡ true
    least = grind (arith, nat_tests)

    got : slice_get w.reports n ≡ Some r
    got = ap (λ rs. slice_get rs n) k.reports ∙ fits.0

    there : nat_lt n (length w.reports) ≡ true
    there = below n (length w.reports) (slice_get_within w.reports n r got)

    count : requests_taken (x.wired.lane.trace ++ as_heard n r ∷ []) ≡ grown (requests_taken x.wired.lane.trace) n
    count =
        counts x.wired.lane.trace (as_heard n r) facts.goes_on
        ∙ ap (λ b. requests_taken x.wired.lane.trace + cond b 1 0) (facts.fresh ∙ j.agree.numbered n)

    had : n < requests_taken (x.wired.lane.trace ++ as_heard n r ∷ [])
    had = subst (λ i. n < i) (sym count) (reached (nat_le (requests_taken x.wired.lane.trace) n) refl)
      where
        reached : (b : Bool) → nat_le (requests_taken x.wired.lane.trace) n ≡ b → n < requests_taken x.wired.lane.trace + cond b 1 0
        reached true e = omega arith
        reached false e = let less : n < requests_taken x.wired.lane.trace = grind (arith, nat_tests) in omega arith

-- by what is under way

turn-by : (c : ℕ) (x : Joined) (w : Worker) (m : List ℕ) (rest : List (List ℕ)) (e : Event) (us : List Upward) → Joint x w → x.heard ≡ true → (k : Knowing x.wired.lane.trace x.wired.core x.wired.up x.link x.backlog x.whole w)
    → x.wired.up ≡ m ∷ rest → m ∷ rest ≡ map up_bytes us → AllByRecursion (FitsUp x.wired.core) us → Flows (requests_taken x.wired.lane.trace) us k.upward.end
    → IsEventOf m e → refusal x.wired.lane.trace e ≡ None → length (x.wired.lane.trace ++ e ∷ []) ≤ c
    → Stepped c x w (made x (record x.wired { lane = with_event x.wired.lane e; carried = carried_after x.wired.carried e; up = rest; down = x.wired.down ++ answers_to_send (reply x.wired.lane.trace e) }))
turn-by c x w m rest e [] j heard k up is fits flows read ok l = cc
turn-by c x w m rest e (answers_up n a ∷ us) j heard k up is fits flows read ok l =
    let head : m ≡ up_bytes (answers_up n a) = cc in
    let tail : rest ≡ map up_bytes us = cc in
    let same : e ≡ In n (Answered (is_exception a)) = reply-event n a e fits.0.1 (subst (λ b. IsEventOf b e) head read) in
    subst (λ q. refusal x.wired.lane.trace q ≡ None → length (x.wired.lane.trace ++ q ∷ []) ≤ c → Stepped c x w (made x (record x.wired { lane = with_event x.wired.lane q; carried = carried_after x.wired.carried q; up = rest; down = x.wired.down ++ answers_to_send (reply x.wired.lane.trace q) }))) (sym same)
    (λ ok l. subst (λ q. Stepped c x w (made x (record x.wired { lane = with_event x.wired.lane (In n (Answered (is_exception a))); carried = carried_after x.wired.carried (In n (Answered (is_exception a))); up = q; down = x.wired.down ++ [] }))) (sym tail)
    (turn-response c x w n a us m j heard k (up ∙ ap (λ q. m ∷ q) tail) fits flows ok l)) ok l
turn-by c x w m rest e (asks_up n r ∷ us) j heard k up is fits flows read ok l =
    let head : m ≡ up_bytes (asks_up n r) = cc in
    let tail : rest ≡ map up_bytes us = cc in
    let s : IsSmall x.wired.lane.trace = small x.wired.lane.trace j.agree.taken in
    let taken_few : requests_taken x.wired.lane.trace ≤ 999999 = s.1 in
    let commands_few : commands x.wired.lane.trace ≤ 999999 = s.0 in
    let number : n ≤ requests_taken x.wired.lane.trace = flows.0 in
    let got : slice_get w.reports n ≡ Some r = ap (λ rs. slice_get rs n) k.reports ∙ fits.0 in
    let low : command_of r < commands x.wired.lane.trace = started-below x.wired.lane.trace (command_of r) (j.agree.started (command_of r) (j.agree.asked n r got).0) in
    let can : CanBeSaid r = can-be-said r (all-get IsSayable x.wired.core.reports n r k.sayable fits.0) (omega arith) in
    let same : e ≡ as_heard n r = sent-event n r e (omega arith) can (subst (λ b. IsEventOf b e) head read) in
    subst (λ q. refusal x.wired.lane.trace q ≡ None → length (x.wired.lane.trace ++ q ∷ []) ≤ c → Stepped c x w (made x (record x.wired { lane = with_event x.wired.lane q; carried = carried_after x.wired.carried q; up = rest; down = x.wired.down ++ answers_to_send (reply x.wired.lane.trace q) }))) (sym same)
    (λ ok l. subst (λ q. Stepped c x w (made x (record x.wired { lane = with_event x.wired.lane (as_heard n r); carried = carried_after x.wired.carried (as_heard n r); up = q; down = x.wired.down ++ answers_to_send (reply x.wired.lane.trace (as_heard n r)) }))) (sym tail)
    (turn-request c x w n r us m j heard k (up ∙ ap (λ q. m ∷ q) tail) fits number flows.1 ok l)) ok l

pub make-Turn : (c : ℕ) (x : Joined) (w : Worker) (v : Wired) → Joint x w → Moves x.wired Turn v → length v.lane.trace ≤ c → Stepped c x w (made x v)
make-Turn c x w v j h l = go h.3 h.7 h.8
  where
    known : (x.heard ≡ true) × Knowing x.wired.lane.trace x.wired.core x.wired.up x.link x.backlog x.whole w
    known = elim j.parts.side [
      | inl y ↦ y
      | inr y ↦ (let none : x.wired.up ≡ [] = y.1.silent in let some : x.wired.up ≡ h.0 ∷ h.1 = h.5 in absurd cc)
    ]

    go : (r : Result Reply (Event × HearRefusal)) → Hears x.wired.lane h.2 r h.4 → TurnsBy x.wired h.2 h.1 r h.4 v → Stepped c x w (made x v)
    go (Err back) hears turns = subst (λ q. Stepped c x w (made x q)) (sym turns.1) (make-idle c x w x.wired.outbox j j.parts.waits)
    go (Ok r) hears turns =
        let all : v ≡ record x.wired { lane = with_event x.wired.lane h.2; carried = carried_after x.wired.carried h.2; up = h.1; down = x.wired.down ++ answers_to_send (reply x.wired.lane.trace h.2) } =
        turns ∙ ap (λ (q : Heard). record x.wired { lane = q; carried = carried_after x.wired.carried h.2; up = h.1; down = x.wired.down ++ answers_to_send r }) hears.0
        ∙ ap (λ q. record x.wired { lane = with_event x.wired.lane h.2; carried = carried_after x.wired.carried h.2; up = h.1; down = x.wired.down ++ answers_to_send q }) hears.1 in
        subst (λ (q : Wired). length q.lane.trace ≤ c → Stepped c x w (made x q)) (sym all)
        (turn-by c x w h.0 h.1 h.2 known.1.upward.ups j known.0 known.1 h.5 (sym h.5 ∙ known.1.upward.is) known.1.upward.fits known.1.upward.flows h.6 hears.2) l
