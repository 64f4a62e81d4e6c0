-- What is carried are the orders without an answer.
use Rattle.std.proofs.Common.{◌≡◌, ◌∙◌, refl, sym, ap, ℕ, ◌==◌, Bool, true, false, not, cond, List, [], ◌∷◌, ◌++◌, map, filter}
use Rattle.std.proofs.lemmas.Cmp.{nat_eq_equiv}
use Rattle.bm_session.specs.Events.{is_order, is_answer_to}
use Rattle.bm_session.specs.Laws.{next_place}
use Rattle.bm_session.specs.Trace.{Trace, Moment, orders, begins_session, pending}
use Rattle.bm_session.specs.declared.event.Event.{Event}
use Rattle.bm_session.specs.declared.event.Event.TheVariants.{Up, In, Go, Stop, Cut, Down}
use Rattle.bm_session.specs.declared.event.Body.TheVariants.{Auth, Update, Complete, BadArgs, NoSuchOp, Answered}
use Rattle.bm_session.proofs.Words.{pending-push}
use Rattle.bm_work.specs.declared.sent.Sent.{Sent}
use Rattle.bm_link.specs.Carries.{Carried, carried_after, with_order}
use Rattle.bm_link.specs.Laws.{CarriesPending, WorkersEventsKeep, OrdersAreAdded, SessionsBeginAnew}

abbrev seqs : List Sent → List ℕ
seqs os = map (λ (o : Sent). o.seq) os

abbrev numbers : List Moment → List ℕ
numbers ms = map (λ (m : Moment). orders m.past) ms

-- a filter by number, before or after the numbers are taken
filter-seqs : (p : ℕ → Bool) (os : List Sent) → seqs (filter (λ (o : Sent). p o.seq) os) ≡ filter p (seqs os)
filter-seqs p [] = refl
filter-seqs p (o ∷ os) = go (p o.seq) (filter-seqs p os)
  where
    go : (b : Bool) → seqs (filter (λ (o : Sent). p o.seq) os) ≡ filter p (seqs os)
        → seqs (cond b (o ∷ filter (λ (o : Sent). p o.seq) os) (filter (λ (o : Sent). p o.seq) os)) ≡ cond b (o.seq ∷ filter p (seqs os)) (filter p (seqs os))
    go true h = ap (λ ns. o.seq ∷ ns) h
    go false h = h

filter-numbers : (p : ℕ → Bool) (ms : List Moment) → numbers (filter (λ (m : Moment). p (orders m.past)) ms) ≡ filter p (numbers ms)
filter-numbers p [] = refl
filter-numbers p (m ∷ ms) = go (p (orders m.past)) (filter-numbers p ms)
  where
    go : (b : Bool) → numbers (filter (λ (m : Moment). p (orders m.past)) ms) ≡ filter p (numbers ms)
        → numbers (cond b (m ∷ filter (λ (m : Moment). p (orders m.past)) ms) (filter (λ (m : Moment). p (orders m.past)) ms)) ≡ cond b (orders m.past ∷ filter p (numbers ms)) (filter p (numbers ms))
    go true h = ap (λ ns. orders m.past ∷ ns) h
    go false h = h

filter-all : (ms : List Moment) → filter (λ (m : Moment). true) ms ≡ ms
filter-all [] = refl
filter-all (m ∷ ms) = ap (λ ns. m ∷ ns) (filter-all ms)

none-more : (ms : List Moment) → ms ++ [] ≡ ms
none-more [] = refl
none-more (m ∷ ms) = ap (λ ns. m ∷ ns) (none-more ms)

numbers-joined : (ms ls : List Moment) → numbers (ms ++ ls) ≡ numbers ms ++ numbers ls
numbers-joined [] ls = refl
numbers-joined (m ∷ ms) ls = ap (λ ns. orders m.past ∷ ns) (numbers-joined ms ls)

seqs-joined : (os ps : List Sent) → seqs (os ++ ps) ≡ seqs os ++ seqs ps
seqs-joined [] ps = refl
seqs-joined (o ∷ os) ps = ap (λ ns. o.seq ∷ ns) (seqs-joined os ps)

-- the orders that the event doesn't answer
abbrev left : Event → List Moment → List Moment
left e ms = filter (λ (l : Moment). not (is_answer_to (orders l.past) e)) ms

answered-left : (n : ℕ) (ms : List Moment) → filter (λ (k : ℕ). not (k == n)) (numbers ms) ≡ numbers (filter (λ (l : Moment). not (n == orders l.past)) ms)
answered-left n [] = refl
answered-left n (m ∷ ms) = ap (λ b. cond (not b) (orders m.past ∷ filter (λ (k : ℕ). not (k == n)) (numbers ms)) (filter (λ (k : ℕ). not (k == n)) (numbers ms))) (nat_eq_equiv.symm (orders m.past) n) ∙ go (n == orders m.past) (answered-left n ms)
  where
    go : (b : Bool) → filter (λ (k : ℕ). not (k == n)) (numbers ms) ≡ numbers (filter (λ (l : Moment). not (n == orders l.past)) ms)
        → cond (not b) (orders m.past ∷ filter (λ (k : ℕ). not (k == n)) (numbers ms)) (filter (λ (k : ℕ). not (k == n)) (numbers ms))
        ≡ numbers (cond (not b) (m ∷ filter (λ (l : Moment). not (n == orders l.past)) ms) (filter (λ (l : Moment). not (n == orders l.past)) ms))
    go true h = h
    go false h = ap (λ ns. orders m.past ∷ ns) h

still : (carry : Carried) (ms : List Moment) → seqs carry.orders ≡ numbers ms → seqs carry.orders ≡ numbers (filter (λ (m : Moment). true) ms)
still carry ms h = h ∙ sym (ap numbers (filter-all ms))

-- an event leaves the numbers of the orders that it doesn't answer
kept : (carry : Carried) (ms : List Moment) (e : Event) → seqs carry.orders ≡ numbers ms → seqs (carried_after carry e).orders ≡ numbers (left e ms)
kept carry ms Up h = still carry ms h
kept carry ms Go h = still carry ms h
kept carry ms (Stop k) h = still carry ms h
kept carry ms Cut h = still carry ms h
kept carry ms Down h = still carry ms h
kept carry ms (In n Auth) h = still carry ms h
kept carry ms (In n (Update k batch rc)) h = still carry ms h
kept carry ms (In n (Complete k fault)) h = still carry ms h
kept carry ms (In n BadArgs) h = still carry ms h
kept carry ms (In n NoSuchOp) h = still carry ms h
kept carry ms (In n (Answered fault)) h =
    filter-seqs (λ (k : ℕ). not (k == n)) carry.orders ∙ (ap (filter (λ (k : ℕ). not (k == n))) h ∙ answered-left n ms)

-- what is pending after an event, where no session begins
after : (t : Trace) (e : Event) → begins_session (next_place t e) ≡ false
    → pending (t ++ e ∷ []) ≡ left e (pending t) ++ cond (is_order e) (next_place t e ∷ []) []
after t e b = pending-push t e ∙ ap (λ x. cond x [] (left e (pending t) ++ cond (is_order e) (next_place t e ∷ []) [])) b

pub events_keep : WorkersEventsKeep
events_keep t carry e o b h =
    kept carry (pending t) e h
    ∙ sym (ap numbers (after t e b ∙ (ap (λ x. left e (pending t) ++ cond x (next_place t e ∷ []) []) o ∙ none-more (left e (pending t)))))

added : (t : Trace) (carry : Carried) (e : Event) (bytes : List ℕ) → is_order e ≡ true → begins_session (next_place t e) ≡ false
    → seqs carry.orders ≡ numbers (left e (pending t)) → CarriesPending (with_order carry (record { seq = orders t; bytes = bytes })) (t ++ e ∷ [])
added t carry e bytes o b h =
    seqs-joined carry.orders (record { seq = orders t; bytes = bytes } ∷ [])
    ∙ (ap (λ ns. ns ++ orders t ∷ []) h
    ∙ sym (ap numbers (after t e b ∙ ap (λ x. left e (pending t) ++ cond x (next_place t e ∷ []) []) o) ∙ numbers-joined (left e (pending t)) (next_place t e ∷ [])))

pub orders_added : OrdersAreAdded
orders_added t carry Go bytes o h = added t carry Go bytes o refl (still carry (pending t) h)
orders_added t carry (Stop k) bytes o h = added t carry (Stop k) bytes o refl (still carry (pending t) h)
orders_added t carry Up bytes o h = cc
orders_added t carry Cut bytes o h = cc
orders_added t carry Down bytes o h = cc
orders_added t carry (In n body) bytes o h = cc

pub sessions_begin : SessionsBeginAnew
sessions_begin = (
  (λ resumable. refl),
  (λ t carry e named b. sym (ap numbers (pending-push t e ∙ ap (λ x. cond x [] (left e (pending t) ++ cond (is_order e) (next_place t e ∷ []) [])) b))),
)
