-- What a master sends is heard as it was meant.
use Rattle.std.proofs.Common.{◌≡◌, refl, ◌∙◌, ap, subst, true, false, cond, Bool, ℕ, ◌<◌, ◌^◌, List, [], ◌∷◌, length, map, Some, None, Option, option_map, arith, codes, lit<}
use Rattle.std.specs.Prelude.{nat_le, sum_by, if◌then◌else◌}
use Rattle.std.specs.FinMap.{get, get-empty}
use Rattle.std.specs.Ordering.{nat_cmp}
use Rattle.std.proofs.lemmas.Bool.{lt-leb}
use Rattle.bm_value.specs.Tree.{Tree, str}
use Rattle.bm_value.specs.View.{trees_of}
use Rattle.bm_value.specs.Writing.{written}
use Rattle.bm_msg.specs.Meaning.{Meaning, request, start_command, interrupt_command, print, keepalive, get_worker_info, shutdown}
use Rattle.bm_msg.specs.Trees.{tree_of, answer, answer_bytes}
use Rattle.bm_session.specs.Texts.{exception_text}
use Rattle.bm_link.specs.Asks.{asks_for, ask_bytes, texts_of}
use Rattle.bm_link.specs.Orders.{args_of, start_bytes, interrupt_bytes}
use Rattle.bm_link.specs.declared.asks.Ask.{Ask}
use Rattle.bm_link.specs.declared.asks.Ask.TheVariants as ask
use Rattle.bm_work.specs.Argv.{argv_of, strs_of}
use Rattle.bm_work.specs.Core.{Core, Hearing, new_core, heard, heard_request, first_heard, start_answer, run, runs}
use Rattle.bm_work.specs.WorkerAnswers.{is_done}
use Rattle.bm_work.specs.declared.act.WorkAct.{WorkAct}
use Rattle.bm_work.specs.declared.act.WorkAct.TheVariants as acts
use Rattle.bm_work.specs.declared.worker_answer.WorkerAnswer.{WorkerAnswer}
use Rattle.bm_work.specs.declared.worker_answer.WorkerAnswer.TheVariants as work
use Rattle.bm_wired.specs.Wired.{AreSendable}
use Rattle.bm_wired.specs.ReadBack.{AreMeant, LeadTo, once, answer_to_start, run_of, started_of, hears_start, StartsAreRead, RunsAreMeant, StartsAreRun, NewWorkersRun, EmptyStartsAreRefused, hears_interrupt, InterruptsAreRead, hears_ask, AsksAreRead, IsTellable, hears_answer, AnswersAreRead, VerdictsAreRead}
use Rattle.bm_wired.proofs.Downward.{IsSound, read-as, are-read, said-as, hearing-is, start-sound, stop-sound, ask-sound, answer-sound, brief}

are-meant : (m : Meaning) → IsSound m → AreMeant (written (tree_of m)) m
are-meant m h = record {
  read = are-read m h;
  alone = λ a x. said-as (written (tree_of m)) m a (λ t s. read-as m t h s) x;
}

leads : (bytes : List ℕ) (m : Meaning) (hearing : Core → Hearing) → AreMeant bytes m → ((core : Core) → heard core m ≡ hearing core) → LeadTo bytes hearing
leads bytes m hearing meant same = λ core a x. hearing-is core a m (meant.alone a x) ∙ same core

-- the words of a start

strs-back : (ws : List (List ℕ)) → strs_of (trees_of (map str ws)) ≡ Some ws
strs-back [] = refl
strs-back (w ∷ ws) = ap (option_map (λ (more : List (List ℕ)). w ∷ more)) (strs-back ws)

words-back : (p : List ℕ) (ws : List (List ℕ)) → argv_of (args_of (p ∷ ws)) ≡ Some (p ∷ ws)
words-back p ws = ap (option_map (λ (more : List (List ℕ)). p ∷ more)) (strs-back ws)

pub start-meant : (n k : ℕ) (argv : List (List ℕ)) → n < 2 ^ 63 → k < 2 ^ 63 → AreSendable argv → AreMeant (start_bytes n k argv) (request n (start_command k (codes "shell") (args_of argv)))
unfolding start_bytes
start-meant n k argv a b s = are-meant (request n (start_command k (codes "shell") (args_of argv))) (start-sound n k argv a b s)

-- what a worker does on a start

start-heard : (core : Core) (n k : ℕ) (argv : List (List ℕ)) (args : Tree) (o : Option WorkerAnswer) → argv_of args ≡ Some argv
    → heard_request core n (start_command k (codes "shell") args) o ≡ once core n (answer_to_start core k) (run_of k argv (answer_to_start core k)) (started_of k (answer_to_start core k)) o
start-heard core n k argv args (Some first) e = refl
start-heard core n k argv args None e =
    ap (λ (o : Option (List (List ℕ))). first_heard core n (start_answer core.running k (codes "shell") o) (if is_done (start_answer core.running k (codes "shell") o) then run k o else acts.Nothing) (started_of k (start_answer core.running k (codes "shell") o))) e

start-leads : (n k : ℕ) (p : List ℕ) (ws : List (List ℕ)) → n < 2 ^ 63 → k < 2 ^ 63 → AreSendable (p ∷ ws) → LeadTo (start_bytes n k (p ∷ ws)) (hears_start n k (p ∷ ws))
start-leads n k p ws a b s = leads (start_bytes n k (p ∷ ws)) (request n (start_command k (codes "shell") (args_of (p ∷ ws)))) (hears_start n k (p ∷ ws)) (start-meant n k (p ∷ ws) a b s)
    (λ core. start-heard core n k (p ∷ ws) (args_of (p ∷ ws)) (get core.answers n) (words-back p ws))

pub starts_are_read : StartsAreRead
starts_are_read n k p ws a b s = (start-meant n k (p ∷ ws) a b s, words-back p ws, start-leads n k p ws a b s)

-- a start without words

empty-heard : (core : Core) (n k : ℕ) (o : Option WorkerAnswer) → heard_request core n (start_command k (codes "shell") (args_of [])) o ≡ once core n work.BadArguments acts.Nothing [] o
empty-heard core n k (Some first) = refl
empty-heard core n k None = refl

none-sendable : AreSendable []
none-sendable = let none : sum_by {X = List ℕ} length [] ≡ 0 = refl in ((omega arith, omega arith), tt)

pub empty_starts_are_refused : EmptyStartsAreRefused
empty_starts_are_refused n k a b = leads (start_bytes n k []) (request n (start_command k (codes "shell") (args_of []))) (λ core. once core n work.BadArguments acts.Nothing [] (get core.answers n))
    (start-meant n k [] a b none-sendable) (λ core. empty-heard core n k (get core.answers n))

-- whatever is run is what was meant

run-only : (k : ℕ) (argv : List (List ℕ)) (b : Bool) (j : ℕ) (others : List (List ℕ)) → ◌≡◌ {A = WorkAct} (if b then acts.Run k argv else acts.Nothing) (acts.Run j others) → (j ≡ k) × (others ≡ argv)
run-only k argv true j others e = (cc, cc)
run-only k argv false j others e = absurd cc

once-only : (core : Core) (n k : ℕ) (argv : List (List ℕ)) (a : WorkerAnswer) (started : List ℕ) (o : Option WorkerAnswer) (j : ℕ) (others : List (List ℕ)) → (once core n a (run_of k argv a) started o).act ≡ acts.Run j others → (j ≡ k) × (others ≡ argv)
once-only core n k argv a started (Some first) j others e = run-only k argv false j others e
once-only core n k argv a started None j others e = run-only k argv (is_done a) j others e

nothing-run : (j : ℕ) (others : List (List ℕ)) → ◌≡◌ {A = WorkAct} acts.Nothing (acts.Run j others) → ⊥
nothing-run j others e = cc

none-run : (core : Core) (n : ℕ) (a : WorkerAnswer) (o : Option WorkerAnswer) (j : ℕ) (others : List (List ℕ)) → (once core n a acts.Nothing [] o).act ≡ acts.Run j others → ⊥
none-run core n a (Some first) j others e = nothing-run j others e
none-run core n a None j others e = nothing-run j others e

pub runs_are_meant : RunsAreMeant
runs_are_meant n k [] a b s core x j others h e =
    absurd (none-run core n work.BadArguments (get core.answers n) j others (subst (λ (y : Hearing). y.act ≡ acts.Run j others) (empty_starts_are_refused n k a b core x h) e))
runs_are_meant n k (p ∷ ws) a b s core x j others h e =
    once-only core n k (p ∷ ws) (answer_to_start core k) (started_of k (answer_to_start core k)) (get core.answers n) j others (subst (λ (y : Hearing). y.act ≡ acts.Run j others) (start-leads n k p ws a b s core x h) e)

-- and it is run

taken : (core : Core) (k : ℕ) → runs core k ≡ false → length core.running < 4 → answer_to_start core k ≡ work.Done
taken core k idle few =
    ap (λ (b : Bool). cond b work.AlreadyRuns (cond (nat_le 4 (length core.running)) work.TooManyCommands work.Done)) idle
    ∙ ap (λ (b : Bool). cond b work.TooManyCommands work.Done) room
  where
    room : nat_le 4 (length core.running) ≡ false
    room = lt-leb 4 (length core.running) few

pub starts_are_run : StartsAreRun
starts_are_run n k p ws a b s core x h new idle few =
    ap (λ (y : Hearing). y.act) (start-leads n k p ws a b s core x h)
    ∙ ap (λ (o : Option WorkerAnswer). (once core n (answer_to_start core k) (run_of k (p ∷ ws) (answer_to_start core k)) (started_of k (answer_to_start core k)) o).act) new
    ∙ ap (run_of k (p ∷ ws)) (taken core k idle few)

pub new_workers_run : NewWorkersRun
new_workers_run n k p ws a b s x h = starts_are_run n k p ws a b s new_core x h (get-empty nat_cmp n) refl (lit< tt)

-- an interruption, by whether its command runs

pub stop-meant : (n k : ℕ) → n < 2 ^ 63 → k < 2 ^ 63 → AreMeant (interrupt_bytes n k) (request n (interrupt_command k (codes "stop")))
unfolding interrupt_bytes
stop-meant n k a b = are-meant (request n (interrupt_command k (codes "stop"))) (stop-sound n k a b)

abbrev stop_answer : Bool → WorkerAnswer
stop_answer b = if b then work.Done else work.NoSuchCommand

stop-by : (core : Core) (n k : ℕ) (o : Option WorkerAnswer) (b : Bool) → once core n (stop_answer b) (if is_done (stop_answer b) then acts.Interrupt k else acts.Nothing) [] o ≡ (if b then once core n work.Done (acts.Interrupt k) [] o else once core n work.NoSuchCommand acts.Nothing [] o)
stop-by core n k o true = refl
stop-by core n k o false = refl

stop-heard : (core : Core) (n k : ℕ) (o : Option WorkerAnswer) → heard_request core n (interrupt_command k (codes "stop")) o ≡ once core n (stop_answer (runs core k)) (if is_done (stop_answer (runs core k)) then acts.Interrupt k else acts.Nothing) [] o
stop-heard core n k (Some first) = refl
stop-heard core n k None = refl

pub interrupts_are_read : InterruptsAreRead
interrupts_are_read n k a b = (
  stop-meant n k a b,
  leads (interrupt_bytes n k) (request n (interrupt_command k (codes "stop"))) (hears_interrupt n k) (stop-meant n k a b)
      (λ core. stop-heard core n k (get core.answers n) ∙ stop-by core n k (get core.answers n) (runs core k)),
)

-- another request

pub ask-meant : (n : ℕ) (q : Ask) → n < 2 ^ 63 → AreSendable (texts_of q) → AreMeant (ask_bytes n q) (request n (asks_for q))
unfolding ask_bytes
ask-meant n q a s = are-meant (request n (asks_for q)) (ask-sound n q a s)

ask-heard : (core : Core) (n : ℕ) (q : Ask) → heard core (request n (asks_for q)) ≡ hears_ask n q core
ask-heard core n (ask.Print m) = print-by (get core.answers n)
  where
    print-by : (o : Option WorkerAnswer) → heard_request core n (print m) o ≡ once core n work.Done (acts.Print m) [] o
    print-by (Some first) = refl
    print-by None = refl
ask-heard core n ask.Keepalive = alive-by (get core.answers n)
  where
    alive-by : (o : Option WorkerAnswer) → heard_request core n keepalive o ≡ once core n work.Done acts.Nothing [] o
    alive-by (Some first) = refl
    alive-by None = refl
ask-heard core n ask.GetWorkerInfo = info-by (get core.answers n)
  where
    info-by : (o : Option WorkerAnswer) → heard_request core n get_worker_info o ≡ once core n work.Info acts.Info [] o
    info-by (Some first) = refl
    info-by None = refl
ask-heard core n ask.Shutdown = end-by (get core.answers n)
  where
    end-by : (o : Option WorkerAnswer) → heard_request core n shutdown o ≡ once core n work.Done acts.Shutdown [] o
    end-by (Some first) = refl
    end-by None = refl

pub asks_are_read : AsksAreRead
asks_are_read n q a s = (ask-meant n q a s, leads (ask_bytes n q) (request n (asks_for q)) (hears_ask n q) (ask-meant n q a s) (λ core. ask-heard core n q))

-- an answer

pub answer-meant : (n : ℕ) (o : Option (List ℕ)) → n < 2 ^ 63 → IsTellable o → AreMeant (answer_bytes n o) (answer n o)
unfolding answer_bytes
answer-meant n o a h = are-meant (answer n o) (answer-sound n o a h)

answer-heard : (core : Core) (n : ℕ) (o : Option (List ℕ)) → heard core (answer n o) ≡ hears_answer n core
answer-heard core n None = refl
answer-heard core n (Some why) = refl

pub answers_are_read : AnswersAreRead
answers_are_read n o a h = (answer-meant n o a h, leads (answer_bytes n o) (answer n o) (hears_answer n) (answer-meant n o a h) (λ core. answer-heard core n o))

pub verdicts_are_read : VerdictsAreRead
verdicts_are_read n v a = answers_are_read n (exception_text v) a (brief v)
