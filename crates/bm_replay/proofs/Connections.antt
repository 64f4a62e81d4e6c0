-- What is sent over a connection stays in order, whatever happens.
use Rattle.std.proofs.Common.{◌≡◌, refl, sym, ◌∙◌, ap, subst, ℕ, zero, suc, ◌+◌, ◌-◌, ◌≤◌, ◌<◌, Bool, true, false, cond, not, ◌&&◌, List, [], ◌∷◌, ◌++◌, length, Option, Some, None, arith, inl, inr, append_assoc}
use Rattle.std.specs.Prelude.{◌⊎◌, nat_lt, nat_le, slice_get, is_none, option_map}
use Rattle.std.specs.List.{AllByRecursion}
use Rattle.std.proofs.lemmas.Bool.Decides.{nat_tests}
use Rattle.std.proofs.lemmas.List.{append-nil, length_push}
use Rattle.bm_lines.specs.Lines.{Line}
use Rattle.bm_session.proofs.Pushed.{next}
use Rattle.bm_session.specs.declared.event.Event.{Event}
use Rattle.bm_session.specs.declared.event.Event.TheVariants.{Up, In, Go, Stop, Cut, Down}
use Rattle.bm_session.specs.declared.event.Body.TheVariants.{Answered}
use Rattle.bm_session.specs.declared.refusal.Refusal.{Refusal}
use Rattle.bm_session.specs.Trace.{Trace, begins_session, is_fresh, is_new_number, is_cut, refusal}
use Rattle.bm_work.specs.Core.{numbers}
use Rattle.bm_work.specs.Stream.{Report, sent, stream, stream_from, without_answer}
use Rattle.bm_world.specs.declared.step.Step.TheVariants.{Hear, Drain, Look}
use Rattle.bm_world.specs.World.{World, heard, stepped}
use Rattle.bm_replay.specs.Schedule.{as_heard, new_worker, Act, Run, Say, Finish, Deliver, Respond, Make, reported_by, Scene, is_allowed, lane_after, requests_taken}
use Rattle.bm_replay.specs.Resumed.{Link, new_link, Linked, Happening, Do, Learn, is_possible, after_one, with_sent}
use Rattle.bm_replay.specs.Laws.{IsSentOf}
use Rattle.bm_replay.proofs.Sessions.{requests_taken-push}
use Rattle.bm_replay.proofs.Agreement.{Agree}
use Rattle.bm_replay.proofs.Requests.{IsAsked, asked-event}
use Rattle.bm_replay.proofs.Acts.{hear-cases, drain-keeps}
use Rattle.bm_replay.proofs.Links.{Passage, IsInOrder, in-order-at-first, sends, arrives, next-is, arrives-again, arrives-next, learns, resume, resumes}
use Rattle.bm_replay.proofs.StreamNumbers.{numbers-append, next-number, arrived-number, numbers-unanswered, sent-still, all-append, sent-next, sent-unanswered}

abbrev pub passage : Link → Passage
passage l = record { sent = numbers l.sent; arrived = l.arrived; answered = l.answered }

-- of the requests of these reports the first h were taken: the connection's numbers are in order,
-- and each is sent with its bytes
pub record IsLinked (h : ℕ) (reports : List Report) (l : Link) : Type 0 where
  pub in_order : IsInOrder h (length reports) (passage l)
  pub sent_of : AllByRecursion (IsSentOf reports) l.sent

abbrev pub LinkOf : Linked → Type 0
LinkOf x = IsLinked (requests_taken x.scene.lane.trace) x.scene.worker.reports x.link

abbrev pub AgreeOf : (ℕ → List Line) → Linked → Type 0
AgreeOf f x = Agree f x.scene.lane.trace x.scene.worker

pub linked-at-first : IsLinked 0 [] new_link
linked-at-first = record { in_order = in-order-at-first; sent_of = tt }

-- how many requests were taken after one event more
counted : (t : Trace) (e : Event) (b : Bool) → begins_session (next t e) ≡ false → is_fresh (next t e) ≡ b → requests_taken (t ++ e ∷ []) ≡ requests_taken t + cond b 1 0
counted t e b st fr = requests_taken-push t e ∙ ap (λ x. cond x 0 (requests_taken t + cond (is_fresh (next t e)) 1 0)) st ∙ ap (λ x. requests_taken t + cond x 1 0) fr

quiet-step : (w : World) (e : Event) (reports : List Report) (l : Link) → begins_session (next w.trace e) ≡ false → is_fresh (next w.trace e) ≡ false
    → IsLinked (requests_taken w.trace) reports l → IsLinked (requests_taken (stepped w (Hear e)).1.trace) reports l
quiet-step w e reports l st fr s =
    let same : requests_taken (w.trace ++ e ∷ []) ≡ requests_taken w.trace = counted w.trace e false st fr ∙ omega arith in
    hear-cases w e (λ t. IsLinked (requests_taken t) reports l) s (λ h. subst (λ m. IsLinked m reports l) (sym same) s)

not-longer : (t : Trace) → nat_lt (length t) (length t) ≡ false
not-longer t = grind (arith, nat_tests)

longer : (t : Trace) (e : Event) → nat_lt (length t) (length (t ++ e ∷ [])) ≡ true
longer t e = let a : length (t ++ e ∷ []) ≡ length t + 1 = length_push t e in grind (arith, nat_tests)

-- the worker sends what it reports

says-one : (h : ℕ) (reports : List Report) (l : Link) (r : Report) → IsLinked h reports l → IsLinked h (reports ++ r ∷ []) (with_sent (sent (length reports) r ∷ []) l)
says-one h reports l r s =
    let same : numbers (l.sent ++ sent (length reports) r ∷ []) ≡ numbers l.sent ++ length reports ∷ [] = numbers-append l.sent (sent (length reports) r ∷ []) in
    record {
      in_order =
          subst (λ len. IsInOrder h len (passage (with_sent (sent (length reports) r ∷ []) l))) (sym (length_push reports r))
          (subst (λ ns. IsInOrder h (length reports + 1) (record { sent = ns; arrived = l.arrived; answered = l.answered })) (sym same) (sends h (length reports) (passage l) s.in_order));
      sent_of = all-append (IsSentOf (reports ++ r ∷ [])) l.sent (sent (length reports) r ∷ []) (sent-still reports (r ∷ []) l.sent s.sent_of) (sent-next reports (r ∷ []));
    }

says : (more : List Report) (h : ℕ) (reports : List Report) (l : Link) → IsLinked h reports l → IsLinked h (reports ++ more) (with_sent (stream_from (length reports) more) l)
says [] h reports l s =
    subst (λ rs. IsLinked h rs (with_sent [] l)) (sym (append-nil reports))
    (subst (λ ss. IsLinked h reports (record { sent = ss; arrived = l.arrived; answered = l.answered })) (sym (append-nil l.sent)) s)
says (r ∷ more) h reports l s =
    let rest : IsLinked h ((reports ++ r ∷ []) ++ more) (with_sent (stream_from (length (reports ++ r ∷ [])) more) (with_sent (sent (length reports) r ∷ []) l)) =
    says more h (reports ++ r ∷ []) (with_sent (sent (length reports) r ∷ []) l) (says-one h reports l r s) in
    let same : (l.sent ++ sent (length reports) r ∷ []) ++ stream_from (length (reports ++ r ∷ [])) more ≡ l.sent ++ stream_from (length reports) (r ∷ more) =
    append_assoc l.sent (sent (length reports) r ∷ []) (stream_from (length (reports ++ r ∷ [])) more) ∙ ap (λ n. l.sent ++ sent (length reports) r ∷ stream_from n more) (length_push reports r) in
    subst (λ rs. IsLinked h rs (with_sent (stream_from (length reports) (r ∷ more)) l)) (append_assoc reports (r ∷ []) more)
    (subst (λ ss. IsLinked h ((reports ++ r ∷ []) ++ more) (record { sent = ss; arrived = l.arrived; answered = l.answered })) same rest)

-- the lane takes the next request, or doesn't

abbrev arrived-one : Link → Link
arrived-one l = record { sent = l.sent; arrived = l.arrived + 1; answered = l.answered }

delivered : (f : ℕ → List Line) (s : Scene) (l : Link) (n : ℕ) (r : Report) → slice_get (numbers l.sent) l.arrived ≡ Some n → Agree f s.lane.trace s.worker → IsLinked (requests_taken s.lane.trace) s.worker.reports l
    → IsLinked (requests_taken (stepped s.lane (Hear (as_heard n r))).1.trace) s.worker.reports (cond (nat_lt (length s.lane.trace) (length (stepped s.lane (Hear (as_heard n r))).1.trace)) (arrived-one l) l)
delivered f s l n r g h k =
    hear-cases s.lane (as_heard n r) (λ t. IsLinked (requests_taken t) s.worker.reports (cond (nat_lt (length s.lane.trace) (length t)) (arrived-one l) l))
    (subst (λ b. IsLinked (requests_taken s.lane.trace) s.worker.reports (cond b (arrived-one l) l)) (sym (not-longer s.lane.trace)) k)
    (λ a. subst (λ b. IsLinked (requests_taken (s.lane.trace ++ as_heard n r ∷ [])) s.worker.reports (cond b (arrived-one l) l)) (sym (longer s.lane.trace (as_heard n r)))
    (record { in_order = go (next-is (requests_taken s.lane.trace) (length s.worker.reports) (passage l) n k.in_order g).1; sent_of = k.sent_of }))
  where
    q : IsAsked s.lane.trace n r (as_heard n r)
    q = asked-event s.lane.trace n r

    fresh : is_fresh (next s.lane.trace (as_heard n r)) ≡ nat_le (requests_taken s.lane.trace) n
    fresh = ap (λ o. is_new_number s.lane.trace o) q.number ∙ h.numbered n

    go : (n < requests_taken s.lane.trace) ⊎ (n ≡ requests_taken s.lane.trace) → IsInOrder (requests_taken (s.lane.trace ++ as_heard n r ∷ [])) (length s.worker.reports) (arrives (passage l))
    go (inl less) =
        let no : nat_le (requests_taken s.lane.trace) n ≡ false = grind (arith, nat_tests) in
        let same : requests_taken (s.lane.trace ++ as_heard n r ∷ []) ≡ requests_taken s.lane.trace = counted s.lane.trace (as_heard n r) false q.stays (fresh ∙ no) ∙ omega arith in
        subst (λ m. IsInOrder m (length s.worker.reports) (arrives (passage l))) (sym same) (arrives-again (requests_taken s.lane.trace) (length s.worker.reports) (passage l) n k.in_order g less)
    go (inr same) =
        let yes : nat_le (requests_taken s.lane.trace) n ≡ true = grind (arith, nat_tests) in
        let more : requests_taken (s.lane.trace ++ as_heard n r ∷ []) ≡ requests_taken s.lane.trace + 1 = counted s.lane.trace (as_heard n r) true q.stays (fresh ∙ yes) in
        subst (λ m. IsInOrder m (length s.worker.reports) (arrives (passage l))) (sym more) (arrives-next (requests_taken s.lane.trace) (length s.worker.reports) (passage l) n k.in_order g same)

has-some : {A : Type 0} (xs : List A) (n : ℕ) → n < length xs → (x : A) × (slice_get xs n ≡ Some x)
has-some [] n h = absurd (omega arith)
has-some (y ∷ ys) zero h = (y, refl)
has-some (y ∷ ys) (suc n) h = has-some ys n (omega arith)

-- what a connection delivers may be delivered
pub allowed : (x : Linked) (a : Act) → is_possible x (Do a) ≡ true → LinkOf x → is_allowed x.scene a ≡ true
allowed x (Deliver n) ok s =
    let g : slice_get (numbers x.link.sent) x.link.arrived ≡ Some n = next-number x.link.sent x.link.arrived n ok in
    let is : (n < length x.scene.worker.reports) × ((n < requests_taken x.scene.lane.trace) ⊎ (n ≡ requests_taken x.scene.lane.trace)) =
    next-is (requests_taken x.scene.lane.trace) (length x.scene.worker.reports) (passage x.link) n s.in_order g in
    let l : n ≤ requests_taken x.scene.lane.trace = elim is.1 [ inl a ↦ omega arith | inr a ↦ omega arith ] in
    let m : n < length x.scene.worker.reports = is.0 in
    let one : nat_lt n (length x.scene.worker.reports) ≡ true = grind (arith, nat_tests) in
    let two : nat_le n (requests_taken x.scene.lane.trace) ≡ true = grind (arith, nat_tests) in
    rw (one, two) refl
allowed x a ok s = ok

-- a connection begins

abbrev resumed : Linked → Link
resumed x = record { sent = without_answer x.link.answered (stream x.scene.worker.reports); arrived = 0; answered = x.link.answered }

resumes-linked : (h : ℕ) (reports : List Report) (l : Link) → IsLinked h reports l
    → IsLinked h reports (record { sent = without_answer l.answered (stream reports); arrived = 0; answered = l.answered })
resumes-linked h reports l s =
    let inside : h ≤ length reports = s.in_order.inside in
    let order : IsInOrder h (length reports) (resume l.answered (length reports)) = resumes l.answered h s.in_order.known (length reports - h) (length reports) (omega arith) in
    record {
      in_order = subst (λ ns. IsInOrder h (length reports) (record { sent = ns; arrived = 0; answered = l.answered })) (sym (numbers-unanswered l.answered reports)) order;
      sent_of = sent-unanswered l.answered reports;
    }

abbrev up_link : Bool → Bool → Linked → Link
up_link took cut x = cond (not took) x.link (cond cut (resumed x) new_link)

linked-Up : (x : Linked) → LinkOf x → LinkOf (after_one x (Do (Make (Hear Up))))
linked-Up x s = go (refusal x.scene.lane.trace Up) refl
  where
    go : (o : Option Refusal) → refusal x.scene.lane.trace Up ≡ o
        → IsLinked (requests_taken (heard x.scene.lane Up o).1.trace) (cond (is_none o && not (is_cut x.scene.lane.trace)) new_worker x.scene.worker).reports
        (up_link (nat_lt (length x.scene.lane.trace) (length (heard x.scene.lane Up o).1.trace)) (is_cut x.scene.lane.trace) x)
    go (Some r) e = subst (λ b. IsLinked (requests_taken x.scene.lane.trace) x.scene.worker.reports (up_link b (is_cut x.scene.lane.trace) x)) (sym (not-longer x.scene.lane.trace)) s
    go None e =
        subst (λ b. IsLinked (requests_taken (x.scene.lane.trace ++ Up ∷ [])) (cond (not (is_cut x.scene.lane.trace)) new_worker x.scene.worker).reports (up_link b (is_cut x.scene.lane.trace) x))
        (sym (longer x.scene.lane.trace Up)) (up (is_cut x.scene.lane.trace) refl)
      where
        up : (b : Bool) → is_cut x.scene.lane.trace ≡ b → IsLinked (requests_taken (x.scene.lane.trace ++ Up ∷ [])) (cond (not b) new_worker x.scene.worker).reports (up_link true b x)
        up true c =
            let same : requests_taken (x.scene.lane.trace ++ Up ∷ []) ≡ requests_taken x.scene.lane.trace = counted x.scene.lane.trace Up false (ap not c) refl ∙ omega arith in
            subst (λ m. IsLinked m x.scene.worker.reports (resumed x)) (sym same) (resumes-linked (requests_taken x.scene.lane.trace) x.scene.worker.reports x.link s)
        up false c =
            let none : requests_taken (x.scene.lane.trace ++ Up ∷ []) ≡ 0 = requests_taken-push x.scene.lane.trace Up ∙ ap (λ b. cond (not b) 0 (requests_taken x.scene.lane.trace + 0)) c in
            subst (λ m. IsLinked m [] new_link) (sym none) linked-at-first

pub linked : (f : ℕ → List Line) (x : Linked) (p : Happening) → is_possible x p ≡ true → AgreeOf f x → LinkOf x → LinkOf (after_one x p)
linked f x (Learn n) ok h s = record {
  in_order = learns (requests_taken x.scene.lane.trace) (length x.scene.worker.reports) (passage x.link) n s.in_order (arrived-number x.link.sent x.link.arrived n ok);
  sent_of = s.sent_of;
}
linked f x (Do (Run k)) ok h s = s
linked f x (Do (Say k letter t)) ok h s = says (reported_by (Say k letter t)) (requests_taken x.scene.lane.trace) x.scene.worker.reports x.link s
linked f x (Do (Finish k ending)) ok h s = says (reported_by (Finish k ending)) (requests_taken x.scene.lane.trace) x.scene.worker.reports x.link s
linked f x (Do (Deliver n)) ok h s =
    let g : slice_get (numbers x.link.sent) x.link.arrived ≡ Some n = next-number x.link.sent x.link.arrived n ok in
    let r : (r : Report) × (slice_get x.scene.worker.reports n ≡ Some r) =
    has-some x.scene.worker.reports n (next-is (requests_taken x.scene.lane.trace) (length x.scene.worker.reports) (passage x.link) n s.in_order g).0 in
    subst (λ o. IsLinked (requests_taken (lane_after x.scene.lane (option_map (λ r. Hear (as_heard n r)) o)).trace) x.scene.worker.reports (cond (nat_lt (length x.scene.lane.trace) (length (lane_after x.scene.lane (option_map (λ r. Hear (as_heard n r)) o)).trace)) (arrived-one x.link) x.link))
    (sym r.1) (delivered f x.scene x.link n r.0 g h s)
linked f x (Do (Respond n fault)) ok h s = quiet-step x.scene.lane (In n (Answered fault)) x.scene.worker.reports x.link refl refl s
linked f x (Do (Make (Hear Up))) ok h s = linked-Up x s
linked f x (Do (Make (Hear Go))) ok h s = quiet-step x.scene.lane Go x.scene.worker.reports x.link refl refl s
linked f x (Do (Make (Hear (Stop j)))) ok h s = quiet-step x.scene.lane (Stop j) x.scene.worker.reports x.link refl refl s
linked f x (Do (Make (Hear Cut))) ok h s = quiet-step x.scene.lane Cut x.scene.worker.reports x.link refl refl s
linked f x (Do (Make (Hear Down))) ok h s = quiet-step x.scene.lane Down x.scene.worker.reports x.link refl refl s
linked f x (Do (Make (Hear (In n body)))) ok h s = cc
linked f x (Do (Make Drain)) ok h s = drain-keeps x.scene.lane (λ t. IsLinked (requests_taken t) x.scene.worker.reports x.link) s
linked f x (Do (Make (Look k name off lim))) ok h s = s
