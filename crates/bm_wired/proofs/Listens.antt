-- A turn of the worker's link.
use Rattle.std.proofs.Common.{◌≡◌, refl, sym, ◌∙◌, ap, subst, ℕ, zero, suc, ◌+◌, ◌≤◌, ◌<◌, ◌^◌, Bool, true, false, cond, not, ◌&&◌, ◌||◌, List, [], ◌∷◌, ◌++◌, map, length, Some, None, Option, arith, inl, inr, ◌⊎◌, codes}
use Rattle.std.specs.Prelude.{◌==◌, slice_get, is_none}
use Rattle.std.specs.Ordering.{nat_cmp, eq_by_cmp}
use Rattle.std.specs.Cmp.{nat_cmp_total}
use Rattle.std.specs.FinMap.{FinMap, get, insert, get-insert}
use Rattle.std.specs.List.{list_any, AllByRecursion}
use Rattle.std.proofs.lemmas.Bool.{or_cases, eqb-true}
use Rattle.std.proofs.lemmas.Bool.Decides.{nat_tests}
use Rattle.std.proofs.lemmas.List.{append-nil, length_push}
use Rattle.bm_session.proofs.Snoc.{list_any-push, snoc_induction}
use Rattle.bm_session.proofs.Pushed.{orders-push}
use Rattle.bm_session.proofs.Taken.{and-left, and-right, was_taken-push, none-from}
use Rattle.bm_session.proofs.Taking.{orders_le-length}
use Rattle.bm_session.specs.declared.event.Event.{Event}
use Rattle.bm_session.specs.declared.event.Event.TheVariants.{Up, In, Go, Stop, Cut, Down}
use Rattle.bm_replay.proofs.SmallNumbers.{not-full, room}
use Rattle.bm_session.specs.Trace.{Trace, orders, was_order, was_taken, refusal}
use Rattle.bm_value.specs.Spelling.{Spells}
use Rattle.bm_msg.specs.Meaning.{Asked, start_command, interrupt_command, request}
use Rattle.bm_msg.specs.Trees.{answer}
use Rattle.bm_msg.specs.Incoming.{message, said}
use Rattle.bm_session.specs.Texts.{exception_text}
use Rattle.bm_link.specs.Asks.{asks_for}
use Rattle.bm_link.specs.declared.asks.Ask.{Ask}
use Rattle.bm_link.specs.declared.asks.Ask.TheVariants as ask
use Rattle.bm_link.specs.Orders.{args_of}
use Rattle.bm_work.specs.Core.{Core, Hearing, heard, heard_request, first_heard, answer_to, act_of, started_by, runs}
use Rattle.bm_work.specs.Replies.{reply}
use Rattle.bm_work.specs.Stream.{Report, text, code, over}
use Rattle.bm_work.specs.declared.worker_answer.WorkerAnswer.{WorkerAnswer}
use Rattle.bm_work.specs.declared.worker_answer.WorkerAnswer.TheVariants as work
use Rattle.bm_replay.specs.Schedule.{Run, has_run, have_ended, is_end_of, was_started, was_refused, command_of, requests_taken}
use Rattle.bm_replay.proofs.Lists.{or-first, or-second}
use Rattle.bm_wired.specs.Wired.{Wired, Moves, Listen, reply_in}
use Rattle.bm_wired.proofs.Sim.{worker_of, Sim, Step, Upward, asks_up, answers_up, FitsUp, Ups, Downward, starts_down, stops_down, asks_down, answers_down, down_bytes, Descend, FitsDown, Downs, Past}
use Rattle.bm_wired.proofs.Parts.{ups-add, order-once}
use Rattle.bm_wired.proofs.Downward.{means, said-as, hearing-is, down-read}

-- the map of answers

pub get-own : (m : FinMap nat_cmp WorkerAnswer) (n : ℕ) (a : WorkerAnswer) → get (insert m n a) n ≡ Some a
get-own m n a = get-insert nat_cmp_total m n a n ∙ ap (λ b. cond b (Some a) (get m n)) (same n)
  where
    same : (i : ℕ) → eq_by_cmp nat_cmp i i ≡ true
    same i = grind (arith, nat_tests)

apart : (i n : ℕ) → (i ≡ n → ⊥) → eq_by_cmp nat_cmp i n ≡ false
apart i n h = grind (arith, nat_tests)

get-other : (m : FinMap nat_cmp WorkerAnswer) (n i : ℕ) (a : WorkerAnswer) → (i ≡ n → ⊥) → get (insert m n a) i ≡ get m i
get-other m n i a h = get-insert nat_cmp_total m n a i ∙ ap (λ b. cond b (Some a) (get m i)) (apart i n h)

pub get-stays : (m : FinMap nat_cmp WorkerAnswer) (n i : ℕ) (a b : WorkerAnswer) → get m n ≡ None → get m i ≡ Some b → get (insert m n a) i ≡ Some b
get-stays m n i a b h g = get-other m n i a (λ e. let x : get m n ≡ Some b = subst (λ j. get m j ≡ Some b) e g in cc) ∙ g

-- a command that never ran has no report
ended-there : (rs : List Report) (k : ℕ) → have_ended rs k ≡ true → (n : ℕ) × (r : Report) × (slice_get rs n ≡ Some r) × (command_of r ≡ k)
ended-there [] k h = cc
ended-there (r ∷ rs) k h = go (or_cases (is_end_of k r) (have_ended rs k) h) (ended-there rs k)
  where
    of : (r : Report) → is_end_of k r ≡ true → command_of r ≡ k
    of (over j f) e = eqb-true j k e
    of (text j l t) e = cc
    of (code j z) e = cc

    go : (is_end_of k r ≡ true) ⊎ (have_ended rs k ≡ true) → (have_ended rs k ≡ true → (n : ℕ) × (q : Report) × (slice_get rs n ≡ Some q) × (command_of q ≡ k)) → (n : ℕ) × (q : Report) × (slice_get (r ∷ rs) n ≡ Some q) × (command_of q ≡ k)
    go (inl e) rest = (zero, r, refl, of r e)
    go (inr e) rest = let x = rest e in (suc x.0, x.1, x.2, x.3)

-- a core that heard request n for the first time
abbrev pub heard_core : Core → ℕ → WorkerAnswer → List ℕ → Core
heard_core core n a started = record { running = core.running ++ started; reports = core.reports; answered = core.answered; answers = insert core.answers n a }

ups-reply : (taken : ℕ) (core : Core) (up : List (List ℕ)) (n : ℕ) (a : WorkerAnswer) (started : List ℕ) → n < 2 ^ 63 → get core.answers n ≡ None → Ups taken core up → Ups taken (heard_core core n a started) (up ++ reply n a ∷ [])
ups-reply taken core up n a started low new u = ups-add taken core (heard_core core n a started) up (answers_up n a ∷ []) still refl ((get-own core.answers n a, low), tt) u
  where
    still : (v : Upward) → FitsUp core v → FitsUp (heard_core core n a started) v
    still (asks_up i r) f = f
    still (answers_up i b) f = (get-stays core.answers n i a b new f.0, f.1)

pub past-heard : (t : Trace) (core : Core) (ran : List ℕ) (n : ℕ) (a : WorkerAnswer) → get core.answers n ≡ None → Past t core ran → Past t (heard_core core n a []) ran
past-heard t core ran n a new p = record {
  running = λ k h. p.running k (ap (λ xs. list_any (λ j. j == k) xs) (sym (append-nil core.running)) ∙ h);
  ran_by = λ k h. let x = p.ran_by k h in (x.0, x.1, get-stays core.answers n x.0 a work.Done new x.2);
  refused_by = λ k h st. let x = p.refused_by k h st in (x.0, x.1, x.2, get-stays core.answers n x.0 a x.1 new x.3);
}

pub past-run : (t : Trace) (core : Core) (ran : List ℕ) (n k : ℕ) → get core.answers n ≡ None → was_order t k n ≡ true → have_ended core.reports k ≡ false → Past t core ran → Past t (heard_core core n work.Done (k ∷ [])) (ran ++ k ∷ [])
past-run t core ran n k new order on p = record {
  running = λ j h. runs-on j (or_cases (runs core j) (k == j) (sym (list_any-push (λ i. i == j) core.running k) ∙ h));
  ran_by = λ j h. ran-on j (or_cases (list_any (λ i. i == j) ran) (k == j) (sym (list_any-push (λ i. i == j) ran k) ∙ h));
  refused_by = λ j h st. let x = p.refused_by j h st in (x.0, x.1, x.2, get-stays core.answers n x.0 work.Done x.1 new x.3);
}
  where
    has : (j : ℕ) → (list_any (λ i. i == j) ran || (k == j)) ≡ true → list_any (λ i. i == j) (ran ++ k ∷ []) ≡ true
    has j h = list_any-push (λ i. i == j) ran k ∙ h

    runs-on : (j : ℕ) → (runs core j ≡ true) ⊎ ((k == j) ≡ true) → (list_any (λ i. i == j) (ran ++ k ∷ []) ≡ true) × (have_ended core.reports j ≡ false)
    runs-on j (inl h) = let x = p.running j h in (has j (or-first (list_any (λ i. i == j) ran) (k == j) x.0), x.1)
    runs-on j (inr h) = (has j (or-second (list_any (λ i. i == j) ran) (k == j) h), subst (λ i. have_ended core.reports i ≡ false) (eqb-true k j h) on)

    ran-on : (j : ℕ) → (list_any (λ i. i == j) ran ≡ true) ⊎ ((k == j) ≡ true) → (m : ℕ) × (was_order t j m ≡ true) × (get (insert core.answers n work.Done) m ≡ Some work.Done)
    ran-on j (inl h) = let x = p.ran_by j h in (x.0, x.1, get-stays core.answers n x.0 work.Done work.Done new x.2)
    ran-on j (inr h) = (n, subst (λ i. was_order t i n ≡ true) (eqb-true k j h) order, get-own core.answers n work.Done)

-- a start that comes for the first time may be run
pub may-run : (t : Trace) (core : Core) (ran : List ℕ) (n k : ℕ) → Past t core ran → ((i : ℕ) (r : Report) → slice_get core.reports i ≡ Some r → has_run (worker_of core ran) (command_of r) ≡ true) → was_order t k n ≡ true → was_started t k ≡ true → get core.answers n ≡ None
    → (was_refused t k ≡ false) × (has_run (worker_of core ran) k ≡ false) × (have_ended core.reports k ≡ false)
may-run t core ran n k past asked order st new = (refused (was_refused t k) refl, idle, ended (have_ended core.reports k) refl)
  where
    refused : (b : Bool) → was_refused t k ≡ b → b ≡ false
    refused false e = refl
    refused true e =
        let x = past.refused_by k e st in
        let s : x.0 ≡ n = order-once t k x.0 n x.2 order in
        let g : get core.answers n ≡ Some x.1 = subst (λ i. get core.answers i ≡ Some x.1) s x.3 in cc

    ran-not : (b : Bool) → has_run (worker_of core ran) k ≡ b → b ≡ false
    ran-not false e = refl
    ran-not true e =
        let x = past.ran_by k e in
        let s : x.0 ≡ n = order-once t k x.0 n x.1 order in
        let g : get core.answers n ≡ Some work.Done = subst (λ i. get core.answers i ≡ Some work.Done) s x.2 in cc

    idle : has_run (worker_of core ran) k ≡ false
    idle = ran-not (has_run (worker_of core ran) k) refl

    ended : (b : Bool) → have_ended core.reports k ≡ b → b ≡ false
    ended false e = refl
    ended true e =
        let x = ended-there core.reports k e in
        let r : has_run (worker_of core ran) (command_of x.1) ≡ true = asked x.0 x.1 x.2 in
        let y : has_run (worker_of core ran) k ≡ true = subst (λ i. has_run (worker_of core ran) i ≡ true) x.3 r in
        let z : has_run (worker_of core ran) k ≡ false = idle in cc

-- a trace has few orders

orders-grown : (t : Trace) (e : Event) → length t < 999999 → orders (t ++ e ∷ []) ≤ 999999
orders-grown t e h =
    let size : length (t ++ e ∷ []) ≡ length t + 1 = length_push t e in
    let few : orders (t ++ e ∷ []) ≤ length (t ++ e ∷ []) = orders_le-length (t ++ e ∷ []) in
    omega arith

orders-next-few : (t : Trace) (e : Event) → refusal t e ≡ None → orders t ≤ 999999 → orders (t ++ e ∷ []) ≤ 999999
orders-next-few t Down h s = let same : orders (t ++ Down ∷ []) ≡ orders t + 0 = orders-push t Down in omega arith
orders-next-few t Up h s = orders-grown t Up (room t (not-full t Up h))
orders-next-few t Go h s = orders-grown t Go (room t (not-full t Go h))
orders-next-few t (Stop k) h s = orders-grown t (Stop k) (room t (not-full t (Stop k) h))
orders-next-few t Cut h s = orders-grown t Cut (room t (not-full t Cut h))
orders-next-few t (In n body) h s = orders-grown t (In n body) (room t (not-full t (In n body) h))

orders-small : (t : Trace) → was_taken t ≡ true → orders t ≤ 999999
orders-small = snoc_induction (λ t. was_taken t ≡ true → orders t ≤ 999999) (λ h. omega arith) step
  where
    step : (t : Trace) (e : Event) → (was_taken t ≡ true → orders t ≤ 999999) → was_taken (t ++ e ∷ []) ≡ true → orders (t ++ e ∷ []) ≤ 999999
    step t e ih h =
        let both : (was_taken t && is_none (refusal t e)) ≡ true = sym (was_taken-push t e) ∙ h in
        orders-next-few t e (none-from (refusal t e) (and-right (was_taken t) (is_none (refusal t e)) both)) (ih (and-left (was_taken t) (is_none (refusal t e)) both))

orders-few : (t : Trace) → was_taken t ≡ true → orders t < 2 ^ 62
orders-few t h = let few : orders t ≤ 999999 = orders-small t h in omega arith

descend-le : (o a : ℕ) (ds : List Downward) (o2 a2 : ℕ) → Descend o a ds o2 a2 → (o ≤ o2) × (a ≤ a2)
descend-le o a [] o2 a2 h = let x : o ≡ o2 = h.0 in let y : a ≡ a2 = h.1 in (omega arith, omega arith)
descend-le o a (starts_down n k argv ∷ ds) o2 a2 h = let x = descend-le (o + 1) a ds o2 a2 h.1 in let y : o + 1 ≤ o2 = x.0 in (omega arith, x.1)
descend-le o a (stops_down n k ∷ ds) o2 a2 h = let x = descend-le (o + 1) a ds o2 a2 h.1 in let y : o + 1 ≤ o2 = x.0 in (omega arith, x.1)
descend-le o a (asks_down n q ∷ ds) o2 a2 h = let x = descend-le o (a + 1) ds o2 a2 h.1 in let y : a + 1 ≤ a2 = x.1 in (x.0, omega arith)
descend-le o a (answers_down n v ∷ ds) o2 a2 h = descend-le o a ds o2 a2 h

-- what is under way to the worker, without the first
downs-rest : (t : Trace) (asked : ℕ) (core : Core) (ds : List Downward) (o a : ℕ) → Descend o a ds (orders t) asked → AllByRecursion (FitsDown t) ds → 2 ^ 62 ≤ a → asked ≤ 2 ^ 63
    → ((i : ℕ) → ((o ≤ i) × (i < 2 ^ 62)) ⊎ (a ≤ i) → get core.answers i ≡ None) → Downs t asked core (map down_bytes ds)
downs-rest t asked core ds o a d f l u n = record { downs = ds; order = o; ask = a; is = refl; descend = d; fits = f; asks_from = l; asked_to = u; unheard = n }

-- an answer to the worker's own request
listen-answer : (c : ℕ) (w : Wired) (ran : List ℕ) (ds : List Downward) (n : ℕ) (o : Option (List ℕ)) → Sim w ran → Downs w.lane.trace w.carried.next_ask w.core (map down_bytes ds)
    → Step c w ran (record w { core = (heard w.core (answer n o)).core; up = w.up ++ reply_in (heard w.core (answer n o)).reply; down = map down_bytes ds })
listen-answer c w ran ds n None sim d = record {
  act = None;
  ran2 = ran;
  allowed = tt;
  same = refl;
  reports = sym (append-nil w.core.reports);
  put = sim.put;
  waits = sim.waits;
  links = record {
    ups = let u = sim.links.ups in record { ups = u.ups; is = append-nil w.up ∙ u.is; follow = u.follow; fits = u.fits };
    downs = record { downs = d.downs; order = d.order; ask = d.ask; is = d.is; descend = d.descend; fits = d.fits; asks_from = d.asks_from; asked_to = d.asked_to; unheard = d.unheard };
    past = let p = sim.links.past in record { running = p.running; ran_by = p.ran_by; refused_by = p.refused_by };
    sayable = sim.links.sayable;
  };
}
listen-answer c w ran ds n (Some x) sim d = record {
  act = None;
  ran2 = ran;
  allowed = tt;
  same = refl;
  reports = sym (append-nil w.core.reports);
  put = sim.put;
  waits = sim.waits;
  links = record {
    ups = let u = sim.links.ups in record { ups = u.ups; is = append-nil w.up ∙ u.is; follow = u.follow; fits = u.fits };
    downs = record { downs = d.downs; order = d.order; ask = d.ask; is = d.is; descend = d.descend; fits = d.fits; asks_from = d.asks_from; asked_to = d.asked_to; unheard = d.unheard };
    past = let p = sim.links.past in record { running = p.running; ran_by = p.ran_by; refused_by = p.refused_by };
    sayable = sim.links.sayable;
  };
}

-- a request that starts nothing
listen-quiet : (c : ℕ) (w : Wired) (ran : List ℕ) (ds : List Downward) (n : ℕ) (a : WorkerAnswer) → Sim w ran → n < 2 ^ 63 → get w.core.answers n ≡ None → Downs w.lane.trace w.carried.next_ask (heard_core w.core n a []) (map down_bytes ds)
    → Step c w ran (record w { core = heard_core w.core n a []; up = w.up ++ reply n a ∷ []; down = map down_bytes ds })
listen-quiet c w ran ds n a sim low new d = record {
  act = None;
  ran2 = ran;
  allowed = tt;
  same = refl;
  reports = sym (append-nil w.core.reports);
  put = sim.put;
  waits = sim.waits;
  links = record {
    ups = ups-reply (requests_taken w.lane.trace) w.core w.up n a [] low new sim.links.ups;
    downs = d;
    past = past-heard w.lane.trace w.core ran n a new sim.links.past;
    sayable = sim.links.sayable;
  };
}

-- a start that is run
listen-run : (c : ℕ) (w : Wired) (ran : List ℕ) (ds : List Downward) (n k : ℕ) → Sim w ran → n < 2 ^ 63 → get w.core.answers n ≡ None → was_order w.lane.trace k n ≡ true → was_started w.lane.trace k ≡ true → Downs w.lane.trace w.carried.next_ask (heard_core w.core n work.Done (k ∷ [])) (map down_bytes ds)
    → Step c w ran (record w { core = heard_core w.core n work.Done (k ∷ []); up = w.up ++ reply n work.Done ∷ []; down = map down_bytes ds })
listen-run c w ran ds n k sim low new order began d =
    let may = may-run w.lane.trace w.core ran n k sim.links.past (λ i r g. (sim.agree.asked i r g).0) order began new in
    record {
      act = Some (Run k);
      ran2 = ran ++ k ∷ [];
      allowed = ap (λ b. b && not (was_refused w.lane.trace k) && not (has_run (worker_of w.core ran) k)) began ∙ ap (λ b. not b && not (has_run (worker_of w.core ran) k)) may.0 ∙ ap not may.1;
      same = refl;
      reports = sym (append-nil w.core.reports);
      put = sim.put;
      waits = sim.waits;
      links = record {
        ups = ups-reply (requests_taken w.lane.trace) w.core w.up n work.Done (k ∷ []) low new sim.links.ups;
        downs = d;
        past = past-run w.lane.trace w.core ran n k new order may.2 sim.links.past;
        sayable = sim.links.sayable;
      };
    }

-- a request that comes for the first time
first-time : (core : Core) (n : ℕ) (asked : Asked) → get core.answers n ≡ None → heard core (request n asked) ≡ first_heard core n (answer_to core asked) (act_of asked (answer_to core asked)) (started_by asked (answer_to core asked))
first-time core n asked g = ap (heard_request core n asked) g

abbrev AfterHearing : ℕ → Wired → List ℕ → List Downward → Hearing → Type 0
AfterHearing c w ran ds x = Step c w ran (record w { core = x.core; up = w.up ++ reply_in x.reply; down = map down_bytes ds })

-- the rest after an order, and after another request
module _ (c : ℕ) (w : Wired) (ran : List ℕ) (ds : List Downward) (sim : Sim w ran) (o a : ℕ) (fits : AllByRecursion (FitsDown w.lane.trace) ds) (from : 2 ^ 62 ≤ a)
    (unheard : (i : ℕ) → ((o ≤ i) × (i < 2 ^ 62)) ⊎ (a ≤ i) → get w.core.answers i ≡ None) where
  few : orders w.lane.trace < 2 ^ 62
  few = orders-few w.lane.trace sim.agree.taken

  order-new : Descend (o + 1) a ds (orders w.lane.trace) w.carried.next_ask → (get w.core.answers o ≡ None) × (o < 2 ^ 62)
  order-new d = let x : o + 1 ≤ orders w.lane.trace = (descend-le (o + 1) a ds (orders w.lane.trace) w.carried.next_ask d).0 in let y : orders w.lane.trace < 2 ^ 62 = few in (unheard o (inl (omega arith, omega arith)), omega arith)

  after-order : (b : WorkerAnswer) (started : List ℕ) → Descend (o + 1) a ds (orders w.lane.trace) w.carried.next_ask → Downs w.lane.trace w.carried.next_ask (heard_core w.core o b started) (map down_bytes ds)
  after-order b started d = downs-rest w.lane.trace w.carried.next_ask (heard_core w.core o b started) ds (o + 1) a d fits from sim.links.downs.asked_to rest
    where
      low : o < 2 ^ 62
      low = (order-new d).1

      rest : (i : ℕ) → ((o + 1 ≤ i) × (i < 2 ^ 62)) ⊎ (a ≤ i) → get (insert w.core.answers o b) i ≡ None
      rest i (inl h) = let x : o + 1 ≤ i = h.0 in get-other w.core.answers o i b (λ e. omega arith) ∙ unheard i (inl (omega arith, h.1))
      rest i (inr h) = let x : o < 2 ^ 62 = low in get-other w.core.answers o i b (λ e. omega arith) ∙ unheard i (inr h)

  ask-new : Descend o (a + 1) ds (orders w.lane.trace) w.carried.next_ask → (get w.core.answers a ≡ None) × (a < 2 ^ 63)
  ask-new d = let x : a + 1 ≤ w.carried.next_ask = (descend-le o (a + 1) ds (orders w.lane.trace) w.carried.next_ask d).1 in let y : w.carried.next_ask ≤ 2 ^ 63 = sim.links.downs.asked_to in (unheard a (inr (omega arith)), omega arith)

  after-ask : (b : WorkerAnswer) → Descend o (a + 1) ds (orders w.lane.trace) w.carried.next_ask → Downs w.lane.trace w.carried.next_ask (heard_core w.core a b []) (map down_bytes ds)
  after-ask b d = downs-rest w.lane.trace w.carried.next_ask (heard_core w.core a b []) ds o (a + 1) d fits (omega arith) sim.links.downs.asked_to rest
    where
      rest : (i : ℕ) → ((o ≤ i) × (i < 2 ^ 62)) ⊎ (a + 1 ≤ i) → get (insert w.core.answers a b) i ≡ None
      rest i (inl h) = let x : i < 2 ^ 62 = h.1 in get-other w.core.answers a i b (λ e. omega arith) ∙ unheard i (inl h)
      rest i (inr h) = let x : a + 1 ≤ i = h in get-other w.core.answers a i b (λ e. omega arith) ∙ unheard i (inr (omega arith))

  hear-start : (k : ℕ) (argv : List (List ℕ)) → FitsDown w.lane.trace (starts_down o k argv) → Descend (o + 1) a ds (orders w.lane.trace) w.carried.next_ask → AfterHearing c w ran ds (heard w.core (request o (start_command k (codes "shell") (args_of argv))))
  hear-start k argv f d = subst (AfterHearing c w ran ds) (sym (first-time w.core o (start_command k (codes "shell") (args_of argv)) new)) (by (answer_to w.core (start_command k (codes "shell") (args_of argv))))
    where
      new : get w.core.answers o ≡ None
      new = (order-new d).0

      low : o < 2 ^ 63
      low = let x : o < 2 ^ 62 = (order-new d).1 in omega arith

      by : (b : WorkerAnswer) → AfterHearing c w ran ds (first_heard w.core o b (act_of (start_command k (codes "shell") (args_of argv)) b) (started_by (start_command k (codes "shell") (args_of argv)) b))
      by work.Done = listen-run c w ran ds o k sim low new f.0 f.1 (after-order work.Done (k ∷ []) d)
      by work.Info = listen-quiet c w ran ds o work.Info sim low new (after-order work.Info [] d)
      by work.BadArguments = listen-quiet c w ran ds o work.BadArguments sim low new (after-order work.BadArguments [] d)
      by work.NoSuchCommandName = listen-quiet c w ran ds o work.NoSuchCommandName sim low new (after-order work.NoSuchCommandName [] d)
      by work.AlreadyRuns = listen-quiet c w ran ds o work.AlreadyRuns sim low new (after-order work.AlreadyRuns [] d)
      by work.TooManyCommands = listen-quiet c w ran ds o work.TooManyCommands sim low new (after-order work.TooManyCommands [] d)
      by work.NoSuchCommand = listen-quiet c w ran ds o work.NoSuchCommand sim low new (after-order work.NoSuchCommand [] d)
      by work.NoSuchOperation = listen-quiet c w ran ds o work.NoSuchOperation sim low new (after-order work.NoSuchOperation [] d)

  hear-stop : (k : ℕ) → Descend (o + 1) a ds (orders w.lane.trace) w.carried.next_ask → AfterHearing c w ran ds (heard w.core (request o (interrupt_command k (codes "stop"))))
  hear-stop k d = let x : o < 2 ^ 62 = (order-new d).1 in subst (AfterHearing c w ran ds) (sym (first-time w.core o (interrupt_command k (codes "stop")) (order-new d).0))
      (listen-quiet c w ran ds o (answer_to w.core (interrupt_command k (codes "stop"))) sim (omega arith) (order-new d).0 (after-order (answer_to w.core (interrupt_command k (codes "stop"))) [] d))

  hear-ask : (q : Ask) → Descend o (a + 1) ds (orders w.lane.trace) w.carried.next_ask → AfterHearing c w ran ds (heard w.core (request a (asks_for q)))
  hear-ask q d = subst (AfterHearing c w ran ds) (sym (first-time w.core a (asks_for q) (ask-new d).0)) (by q)
    where
      by : (r : Ask) → AfterHearing c w ran ds (first_heard w.core a (answer_to w.core (asks_for r)) (act_of (asks_for r) (answer_to w.core (asks_for r))) (started_by (asks_for r) (answer_to w.core (asks_for r))))
      by (ask.Print x) = listen-quiet c w ran ds a work.Done sim (ask-new d).1 (ask-new d).0 (after-ask work.Done d)
      by ask.Keepalive = listen-quiet c w ran ds a work.Done sim (ask-new d).1 (ask-new d).0 (after-ask work.Done d)
      by ask.GetWorkerInfo = listen-quiet c w ran ds a work.Info sim (ask-new d).1 (ask-new d).0 (after-ask work.Info d)
      by ask.Shutdown = listen-quiet c w ran ds a work.Done sim (ask-new d).1 (ask-new d).0 (after-ask work.Done d)

hears : (c : ℕ) (w : Wired) (ran : List ℕ) (d : Downward) (ds : List Downward) (o a : ℕ) → Sim w ran → Descend o a (d ∷ ds) (orders w.lane.trace) w.carried.next_ask → AllByRecursion (FitsDown w.lane.trace) (d ∷ ds) → 2 ^ 62 ≤ a
    → ((i : ℕ) → ((o ≤ i) × (i < 2 ^ 62)) ⊎ (a ≤ i) → get w.core.answers i ≡ None) → AfterHearing c w ran ds (heard w.core (means d))
hears c w ran (starts_down n k argv) ds o a sim d f from new = subst (λ i. AfterHearing c w ran ds (heard w.core (means (starts_down i k argv)))) (sym d.0) (hear-start c w ran ds sim o a f.1 from new k argv (subst (λ i. FitsDown w.lane.trace (starts_down i k argv)) d.0 f.0) d.1)
hears c w ran (stops_down n k) ds o a sim d f from new = subst (λ i. AfterHearing c w ran ds (heard w.core (means (stops_down i k)))) (sym d.0) (hear-stop c w ran ds sim o a f.1 from new k d.1)
hears c w ran (asks_down n q) ds o a sim d f from new = subst (λ i. AfterHearing c w ran ds (heard w.core (means (asks_down i q)))) (sym d.0) (hear-ask c w ran ds sim o a f.1 from new q d.1)
hears c w ran (answers_down n v) ds o a sim d f from new = listen-answer c w ran ds n (exception_text v) sim (downs-rest w.lane.trace w.carried.next_ask w.core ds o a d f.1 from sim.links.downs.asked_to new)

pub step-Listen : (c : ℕ) (w : Wired) (ran : List ℕ) (w2 : Wired) → Sim w ran → Moves w Listen w2 → Step c w ran w2
step-Listen c w ran w2 sim h = go sim.links.downs.downs (sym h.3 ∙ sim.links.downs.is) sim.links.downs.descend sim.links.downs.fits
  where
    go : (ds : List Downward) → h.0 ∷ h.1 ≡ map down_bytes ds → Descend sim.links.downs.order sim.links.downs.ask ds (orders w.lane.trace) w.carried.next_ask → AllByRecursion (FitsDown w.lane.trace) ds → Step c w ran w2
    go [] e d f = cc
    go (x ∷ ds) e d f =
        let head : h.0 ≡ down_bytes x = cc in
        let tail : h.1 ≡ map down_bytes ds = cc in
        let s : said h.2 ≡ message (means x) = said-as h.0 (means x) h.2 (λ t b. down-read w.lane.trace x t f.0 (subst (λ bs. Spells bs t) head b)) h.4 in
        let whole : w2 ≡ record w { core = (heard w.core (means x)).core; up = w.up ++ reply_in (heard w.core (means x)).reply; down = map down_bytes ds } =
        h.5 ∙ ap (λ (y : Hearing). record w { core = y.core; up = w.up ++ reply_in y.reply; down = h.1 }) (hearing-is w.core h.2 (means x) s)
        ∙ ap (λ (r : List (List ℕ)). record w { core = (heard w.core (means x)).core; up = w.up ++ reply_in (heard w.core (means x)).reply; down = r }) tail in
        subst (λ v. Step c w ran v) (sym whole) (hears c w ran x ds sim.links.downs.order sim.links.downs.ask sim d f sim.links.downs.asks_from sim.links.downs.unheard)
