-- A worker's side of a session: what it answers, what it reported, and what it still awaits an
-- answer to.
use Rattle.std.specs.Prelude.{◌≡◌, ℕ, ◌+◌, ◌<◌, ◌≤◌, ◌==◌, ◌^◌, Bool, not, ◌&&◌, nat_le, List, [], ◌∷◌, ◌++◌, length, map, filter, All, codes, bytes_eq, Option, Some, None, is_none, if◌then◌else◌}
use Rattle.std.specs.List.{list_any, sum_by}
use Rattle.std.specs.Ordering.{nat_cmp}
use Rattle.std.specs.FinMap.{FinMap, empty, get, insert}
use Rattle.bm_msg.specs.Meaning.{Asked, print, keepalive, get_worker_info, start_command, interrupt_command, shutdown, Meaning, request, response}
use Rattle.bm_work.specs.Argv.{argv_of}
use Rattle.bm_work.specs.WorkerAnswers.{is_done}
use Rattle.bm_work.specs.Replies.{reply}
use Rattle.bm_work.specs.Stream.{Report, stream, without_answer}
use Rattle.bm_work.specs.declared.worker_answer.WorkerAnswer.{WorkerAnswer}
use Rattle.bm_work.specs.declared.worker_answer.WorkerAnswer.TheVariants as answer
use Rattle.bm_work.specs.declared.sent.Sent.{Sent}
use Rattle.bm_work.specs.declared.act.WorkAct.{WorkAct}
use Rattle.bm_work.specs.declared.act.WorkAct.TheVariants.{Run, Interrupt, Print, Info, Shutdown, Answered, Nothing}
use Rattle.bm_work.specs.declared.act.WorkRefusal.{WorkRefusal}
use Rattle.bm_work.specs.declared.act.WorkRefusal.TheVariants.{NoSuchCommand, Window}

-- The commands that run, what was reported in this session, and the numbers of its requests that
-- were answered. Also the numbers of the master's requests of this session, each with its first
-- answer.
pub record Core : Type 0 where
  pub running : List ℕ
  pub reports : List Report
  pub answered : List ℕ
  pub answers : FinMap nat_cmp WorkerAnswer

abbrev pub new_core : Core
new_core = record { running = []; reports = []; answered = []; answers = empty }

-- the number of its next request
abbrev pub next_number : Core → ℕ
next_number c = length c.reports

-- the requests of its stream without an answer, oldest first
abbrev pub unanswered_requests : Core → List Sent
unanswered_requests c = without_answer c.answered (stream c.reports)

-- how many bytes requests have together
abbrev pub bytes_of : List Sent → ℕ
bytes_of requests = sum_by (λ (s : Sent). length s.bytes) requests

-- command k is one of those that run
abbrev pub runs_among : List ℕ → ℕ → Bool
runs_among running k = list_any (λ j. j == k) running

-- the answer to a start of command k with these words, tested in this order
abbrev pub start_answer : List ℕ → ℕ → List ℕ → Option (List (List ℕ)) → WorkerAnswer
start_answer running k name argv =
    if not (bytes_eq name (codes "shell")) then answer.NoSuchCommandName else
    if is_none argv then answer.BadArguments else
    if runs_among running k then answer.AlreadyRuns else
    if nat_le 4 (length running) then answer.TooManyCommands else
    answer.Done

-- the answer to a request that comes for the first time, while these commands run
abbrev pub answer_among : List ℕ → Asked → WorkerAnswer
answer_among running (start_command k name args) = start_answer running k name (argv_of args)
answer_among running (interrupt_command k why) = if runs_among running k then answer.Done
    else answer.NoSuchCommand
answer_among running (print message) = answer.Done
answer_among running keepalive = answer.Done
answer_among running shutdown = answer.Done
answer_among running get_worker_info = answer.Info
answer_among running _ = answer.NoSuchOperation

abbrev pub runs : Core → ℕ → Bool
runs c k = runs_among c.running k

abbrev pub answer_to : Core → Asked → WorkerAnswer
answer_to c asked = answer_among c.running asked

-- the words of a request to start a command
abbrev pub words_in : Asked → Option (List (List ℕ))
words_in (start_command k name args) = argv_of args
words_in asked = None

-- what is to be done for a command with these words
abbrev pub run : ℕ → Option (List (List ℕ)) → WorkAct
run k (Some argv) = Run k argv
run k None = Nothing

-- what is to be done for a request that comes for the first time and has this answer
abbrev pub act_of : Asked → WorkerAnswer → WorkAct
act_of (start_command k name args) a = if is_done a then run k (argv_of args) else Nothing
act_of (interrupt_command k why) a = if is_done a then Interrupt k else Nothing
act_of (print message) a = Print message
act_of get_worker_info a = Info
act_of shutdown a = Shutdown
act_of asked a = Nothing

-- the command that it starts
abbrev pub started_by : Asked → WorkerAnswer → List ℕ
started_by (start_command k name args) a = if is_done a then k ∷ [] else []
started_by asked a = []

-- what hearing a message leads to: an act, the bytes of a response, and what holds then
pub record Hearing : Type 0 where
  pub act : WorkAct
  pub reply : Option (List ℕ)
  pub core : Core

-- request n, which comes for the first time, gets this answer
abbrev pub first_heard : Core → ℕ → WorkerAnswer → WorkAct → List ℕ → Hearing
first_heard c n a act started =
    record {
      act = act;
      reply = Some (reply n a);
      core =
          record {
            running = c.running ++ started;
            reports = c.reports;
            answered = c.answered;
            answers = insert c.answers n a;
          };
    }

-- A repeat, whatever it carries, gets the first one's answer and leads to nothing else.
abbrev pub repeated : Core → ℕ → WorkerAnswer → Hearing
repeated c n first = record { act = Nothing; reply = Some (reply n first); core = c }

abbrev pub heard_request : Core → ℕ → Asked → Option WorkerAnswer → Hearing
heard_request c n asked (Some first) = repeated c n first
heard_request c n asked None = let a = answer_to c asked in
    first_heard c n a (act_of asked a) (started_by asked a)

-- request n, whose keys are missing or of another kind
abbrev pub heard_bad : Core → ℕ → Option WorkerAnswer → Hearing
heard_bad c n (Some first) = repeated c n first
heard_bad c n None = first_heard c n answer.BadArguments Nothing []

abbrev pub bad_request : Core → ℕ → Hearing
bad_request c n = heard_bad c n (get c.answers n)

abbrev pub awaits : Core → ℕ → Bool
awaits c n = list_any (λ (s : Sent). s.seq == n) (unanswered_requests c)

-- after a response to request n: an answer counts only where it is awaited, so that none frees a
-- later request
abbrev pub freed : Core → ℕ → Core
freed c n =
    record {
      running = c.running;
      reports = c.reports;
      answered = if awaits c n then c.answered ++ n ∷ [] else c.answered;
      answers = c.answers;
    }

-- A response frees the place of its own request; it is not answered.
abbrev pub heard : Core → Meaning → Hearing
heard c (request n asked) = heard_request c n asked (get c.answers n)
heard c (response n result exception) =
    record { act = if awaits c n then Answered n else Nothing; reply = None; core = freed c n }

-- the most requests without an answer
abbrev pub window : ℕ
window = 64

-- so many more requests have places in the window and numbers below 2^63
abbrev pub has_room : Core → ℕ → Bool
has_room c places = nat_le (length (unanswered_requests c) + places) window
    && nat_le (next_number c + places) (2 ^ 63)

-- why so many requests of command k are refused
abbrev pub refusal : Core → ℕ → ℕ → Option WorkRefusal
refusal c k places =
    if not (runs c k) then Some NoSuchCommand else
    if not (has_room c places) then Some Window else
    None

-- with these reports added to its stream
abbrev pub with_reports : List Report → Core → Core
with_reports reports c =
    record {
      running = c.running;
      reports = c.reports ++ reports;
      answered = c.answered;
      answers = c.answers;
    }

-- command k runs no more
abbrev pub without_command : ℕ → Core → Core
without_command k c =
    record {
      running = filter (λ j. not (j == k)) c.running;
      reports = c.reports;
      answered = c.answered;
      answers = c.answers;
    }

-- the numbers of requests
abbrev pub numbers : List Sent → List ℕ
numbers requests = map (λ (s : Sent). s.seq) requests

-- The numbers rise, from the first bound on and below the second.
abbrev pub Rise : ℕ → List ℕ → ℕ → Type 0
Rise low [] high = low ≤ high
Rise low (n ∷ ns) high = (low ≤ n) × Rise (n + 1) ns high

-- What holds of a worker at any time. At most four commands run, and the unanswered requests fit
-- into the window, oldest first. Each number that was given is below 2^63, and only requests that
-- were sent are answered.
pub record IsCore (c : Core) : Type 0 where
  pub few : length c.running ≤ 4
  pub within : length (unanswered_requests c) ≤ window
  pub oldest_first : Rise 0 (numbers (unanswered_requests c)) (next_number c)
  pub numbered : next_number c ≤ 2 ^ 63
  pub sent_before : All (λ n. n < next_number c) c.answered

-- What a worker keeps beside its core: the number of its next request, and its requests without an
-- answer.
pub record IsKept (c : Core) (next : ℕ) (unanswered : List Sent) : Type 0 where
  pub core : IsCore c
  pub number : next ≡ next_number c
  pub requests : unanswered ≡ unanswered_requests c
