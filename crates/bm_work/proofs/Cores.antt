-- What holds of a worker stays so.
use Rattle.std.proofs.Common.{◌≡◌, ℕ, ◌+◌, ◌<◌, ◌≤◌, ◌==◌, ◌^◌, Bool, true, false, not, ◌&&◌, ◌||◌, nat_le, List, [], ◌∷◌, ◌++◌, length, filter, Option, Some, None, if◌then◌else◌, refl, sym, ap, ◌∙◌, subst, arith, length-append, lit≤}
use Rattle.std.proofs.lemmas.List.{append-nil}
use Rattle.std.proofs.lemmas.List.Elements.{All-nil, All-push}
use Rattle.std.specs.List.{list_any}
use Rattle.std.specs.Prelude.{is_none, bytes_eq, codes}
use Rattle.std.proofs.lemmas.Bool.Decides.{nat_tests}
use Rattle.bm_work.specs.declared.sent.Sent.{Sent}
use Rattle.bm_work.specs.declared.act.WorkRefusal.TheVariants.{NoSuchCommand, Window}
use Rattle.bm_work.specs.Stream.{Report, stream, stream_from}
use Rattle.bm_work.specs.Core.{Core, IsKept, Rise, numbers, next_number, unanswered_requests, awaits, refusal, has_room, runs, with_reports, without_command, new_core, heard_request, heard_bad, start_answer, started_by, runs_among, answer_among}
use Rattle.bm_msg.specs.Meaning.{Asked, start_command}
use Rattle.bm_work.specs.declared.worker_answer.WorkerAnswer.{WorkerAnswer}
use Rattle.bm_work.specs.declared.worker_answer.WorkerAnswer.TheVariants.{Done, BadArguments, NoSuchCommandName, AlreadyRuns, TooManyCommands}
use Rattle.bm_work.specs.WorkerAnswers.{is_done}
use Rattle.bm_work.specs.Argv.{argv_of}
use Rattle.bm_work.proofs.Streams.{length-stream_from}
use Rattle.bm_work.proofs.Unanswered.{unanswered-more, unanswered-fewer}

pub rise-from : (low high : ℕ) (ns : List ℕ) (lower : ℕ) → lower ≤ low → Rise low ns high → Rise lower ns high
rise-from low high [] lower l h = omega arith
rise-from low high (n ∷ ns) lower l h = (omega arith, h.1)

pub rise-append : (low middle high : ℕ) (ns ms : List ℕ) → Rise low ns middle → Rise middle ms high → Rise low (ns ++ ms) high
rise-append low middle high [] ms h g = rise-from middle high ms low h g
rise-append low middle high (n ∷ ns) ms h g = (h.0, rise-append (n + 1) middle high ns ms h.1 g)

pub rise-stream : (n : ℕ) (rs : List Report) → Rise n (numbers (stream_from n rs)) (n + length rs)
rise-stream n [] = omega arith
rise-stream n (r ∷ rs) =
    let same : n + 1 + length rs ≡ n + length (r ∷ rs) = omega arith in
    (omega arith, subst (λ high. Rise (n + 1) (numbers (stream_from (n + 1) rs)) high) same (rise-stream (n + 1) rs))

numbers-append : (a b : List Sent) → numbers (a ++ b) ≡ numbers a ++ numbers b
numbers-append [] b = refl
numbers-append (s ∷ a) b = ap (λ ns. s.seq ∷ ns) (numbers-append a b)

rise-filter : (p : Sent → Bool) (low high : ℕ) (requests : List Sent) → Rise low (numbers requests) high → Rise low (numbers (filter p requests)) high
rise-filter p low high [] h = h
rise-filter p low high (s ∷ requests) h =
    elim (p s) as (λ b. Rise low (numbers (if b then s ∷ filter p requests else filter p requests)) high) [
      | true ↦ (h.0, rise-filter p (s.seq + 1) high requests h.1)
      | false ↦ rise-filter p low high requests (rise-from (s.seq + 1) high (numbers requests) low (omega arith) h.1)
    ]

rise-bound : (low high : ℕ) (ns : List ℕ) → Rise low ns high → low ≤ high
rise-bound low high [] h = h
rise-bound low high (n ∷ ns) h = let after : n + 1 ≤ high = rise-bound (n + 1) high ns h.1 in omega (arith, h.0)

either : {P : Type 0} (a b : Bool) → (a || b) ≡ true → (a ≡ true → P) → (b ≡ true → P) → P
either true b e f g = f refl
either false b e f g = g e

-- a number among those of the requests is below the second bound
awaited-below : (n low high : ℕ) (requests : List Sent) → Rise low (numbers requests) high → list_any (λ (s : Sent). s.seq == n) requests ≡ true → n < high
awaited-below n low high [] h e = cc
awaited-below n low high (s ∷ requests) h e =
    let after : s.seq + 1 ≤ high = rise-bound (s.seq + 1) high (numbers requests) h.1 in
    either (s.seq == n) (list_any (λ (r : Sent). r.seq == n) requests) e (λ same. grind (arith, nat_tests)) (λ later. awaited-below n (s.seq + 1) high requests h.1 later)

-- the unanswered requests are a part of the stream
pub unanswered-rise : (c : Core) → Rise 0 (numbers (unanswered_requests c)) (next_number c)
unanswered-rise c =
    let from : 0 + length c.reports ≡ length c.reports = omega arith in
    let all : Rise 0 (numbers (stream c.reports)) (next_number c) = subst (λ high. Rise 0 (numbers (stream c.reports)) high) from (rise-stream 0 c.reports) in
    rise-filter (λ (s : Sent). not (list_any (λ n. n == s.seq) c.answered)) 0 (next_number c) (stream c.reports) all

length-filter : {X : Type 0} (p : X → Bool) (xs : List X) → length (filter p xs) ≤ length xs
length-filter p [] = omega arith
length-filter p (x ∷ xs) =
    elim (p x) as (λ b. length (if b then x ∷ filter p xs else filter p xs) ≤ length (x ∷ xs)) [
      | true ↦ omega (arith, length-filter p xs)
      | false ↦ omega (arith, length-filter p xs)
    ]

abbrev pub with_answer : ℕ → Core → Core
with_answer n c = record { running = c.running; reports = c.reports; answered = c.answered ++ n ∷ []; answers = c.answers }

-- request n, which was awaited, is answered
pub answered-is_kept : (c : Core) (n next : ℕ) (requests : List Sent) → IsKept c next requests → awaits c n ≡ true → IsKept (with_answer n c) next (filter (λ (s : Sent). not (s.seq == n)) requests)
answered-is_kept c n next requests h e =
    let sent : n < next_number c = awaited-below n 0 (next_number c) (unanswered_requests c) h.core.oldest_first e in
    let fewer = unanswered-fewer c.answered n (stream c.reports) in
    let less = length-filter (λ (s : Sent). not (s.seq == n)) (unanswered_requests c) in
    let long = ap length fewer in
    record {
      core =
          record {
            few = h.core.few;
            within = omega (arith, h.core.within, less, long);
            oldest_first = unanswered-rise (with_answer n c);
            numbered = h.core.numbered;
            sent_before = All-push (λ m. m < next_number c) c.answered n h.core.sent_before sent;
          };
      number = h.number;
      requests = ap (filter (λ (s : Sent). not (s.seq == n))) h.requests ∙ fewer;
    }

pub without_command-is_kept : (c : Core) (k next : ℕ) (requests : List Sent) → IsKept c next requests → IsKept (without_command k c) next requests
without_command-is_kept c k next requests h =
    record {
      core = record {
        few = omega (arith, h.core.few, length-filter (λ (j : ℕ). not (j == k)) c.running);
        within = h.core.within;
        oldest_first = h.core.oldest_first;
        numbered = h.core.numbered;
        sent_before = h.core.sent_before;
      };
      number = h.number;
      requests = h.requests;
    }

last_test : (a b : Bool) → (if not a then Some NoSuchCommand else (if not b then Some Window else None)) ≡ None → b ≡ true
last_test true true e = refl
last_test true false e = cc
last_test false b e = cc

both : (a b : Bool) → (a && b) ≡ true → (a ≡ true) × (b ≡ true)
both true b e = (refl, e)
both false b e = cc

-- the places and numbers that a request which is not refused has
pub record HasRoom (c : Core) (places : ℕ) : Type 0 where
  pub places_left : length (unanswered_requests c) + places ≤ 64
  pub numbers_left : next_number c + places ≤ 2 ^ 63

pub has_room-from : (c : Core) (k places : ℕ) → refusal c k places ≡ None → HasRoom c places
has_room-from c k places e =
    let room = both (nat_le (length (unanswered_requests c) + places) 64) (nat_le (next_number c + places) (2 ^ 63)) (last_test (runs c k) (has_room c places) e) in
    let first : nat_le (length (unanswered_requests c) + places) 64 ≡ true = room.0 in
    let second : nat_le (next_number c + places) (2 ^ 63) ≡ true = room.1 in
    record { places_left = grind (arith, nat_tests); numbers_left = grind (arith, nat_tests) }

-- reports that are not refused are added
pub with_reports-is_kept : (c : Core) (k next : ℕ) (requests : List Sent) (rs : List Report) → IsKept c next requests → refusal c k (length rs) ≡ None
    → IsKept (with_reports rs c) (next + length rs) (requests ++ stream_from (next_number c) rs)
with_reports-is_kept c k next requests rs h e =
    let room = has_room-from c k (length rs) e in
    let more = unanswered-more c.answered c.reports rs h.core.sent_before in
    let long = ap length more in
    let each = length-stream_from (next_number c) rs in
    let all = length-append (unanswered_requests c) (stream_from (next_number c) rs) in
    let numbered : length (c.reports ++ rs) ≡ next_number c + length rs = length-append c.reports rs in
    record {
      core =
          record {
            few = h.core.few;
            within = omega (arith, room.places_left, long, each, all);
            oldest_first = unanswered-rise (with_reports rs c);
            numbered = omega (arith, room.numbers_left, numbered);
            sent_before = λ i d l. let before = h.core.sent_before i d l in omega (arith, before, numbered);
          };
      number = omega (arith, h.number, numbered);
      requests = ap (λ front. front ++ stream_from (next_number c) rs) h.requests ∙ sym more;
    }

few-tests : (running : List ℕ) (k : ℕ) (a b c d : Bool) → length running ≤ 4 → (d ≡ false → length running < 4)
    → length (running ++ (if is_done (if a then NoSuchCommandName else (if b then BadArguments else (if c then AlreadyRuns else (if d then TooManyCommands else Done)))) then k ∷ [] else [])) ≤ 4
few-tests running k true b c d h less = rw (append-nil running) h
few-tests running k false true c d h less = rw (append-nil running) h
few-tests running k false false true d h less = rw (append-nil running) h
few-tests running k false false false true h less = rw (append-nil running) h
few-tests running k false false false false h less = omega (arith, less refl, length-append running (k ∷ []))

less_than_four : (n : ℕ) → nat_le 4 n ≡ false → n < 4
less_than_four n e = grind (arith, nat_tests)

few-start : (running : List ℕ) (k : ℕ) (name : List ℕ) (argv : Option (List (List ℕ))) → length running ≤ 4
    → length (running ++ (if is_done (start_answer running k name argv) then k ∷ [] else [])) ≤ 4
few-start running k name argv h =
    few-tests running k (not (bytes_eq name (codes "shell"))) (is_none argv) (runs_among running k) (nat_le 4 (length running)) h (less_than_four (length running))

few-started : (running : List ℕ) (asked : Asked) → length running ≤ 4 → length (running ++ started_by asked (answer_among running asked)) ≤ 4
few-started running (start_command k name args) h = few-start running k name (argv_of args) h
few-started running asked h = rw (append-nil running) h

pub heard_request-is_kept : (c : Core) (n next : ℕ) (requests : List Sent) (asked : Asked) (first : Option WorkerAnswer) → IsKept c next requests → IsKept (heard_request c n asked first).core next requests
heard_request-is_kept c n next requests asked (Some first) h = h
heard_request-is_kept c n next requests asked None h =
    record {
      core = record {
        few = few-started c.running asked h.core.few;
        within = h.core.within;
        oldest_first = h.core.oldest_first;
        numbered = h.core.numbered;
        sent_before = h.core.sent_before;
      };
      number = h.number;
      requests = h.requests;
    }

pub heard_bad-is_kept : (c : Core) (n next : ℕ) (requests : List Sent) (first : Option WorkerAnswer) → IsKept c next requests → IsKept (heard_bad c n first).core next requests
heard_bad-is_kept c n next requests (Some first) h = h
heard_bad-is_kept c n next requests None h =
    record {
      core = record {
        few = rw (append-nil c.running) h.core.few;
        within = h.core.within;
        oldest_first = h.core.oldest_first;
        numbered = h.core.numbered;
        sent_before = h.core.sent_before;
      };
      number = h.number;
      requests = h.requests;
    }

pub new-is_kept : IsKept new_core 0 []
new-is_kept =
    record {
      core = record { few = omega arith; within = omega arith; oldest_first = omega arith; numbered = lit≤ tt; sent_before = All-nil (λ n. n < 0) };
      number = refl;
      requests = refl;
    }
