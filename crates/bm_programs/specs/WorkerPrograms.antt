-- What becomes of the program of a worker, and of those of all the others.
use Rattle.std.specs.Prelude.{◌≡◌, ℕ, max, Bool, true, false, List, [], ◌∷◌, ⊤, slice_get, slice_set, Option, Some, None, is_some, option_map, map, Result, Ok, Err}
use Rattle.bm_latent.specs.declared.deadline.EndAct.{EndAct}
use Rattle.bm_latent.specs.declared.deadline.EndAct.TheVariants as act
use Rattle.bm_config.specs.declared.config.WorkerConfig.{WorkerConfig}
use Rattle.bm_latent.specs.declared.event.LatentState.TheVariants as standing
use Rattle.bm_latent.specs.WorkerMachine.{fresh}
use Rattle.bm_latent.specs.Latent.{LatentView}
use Rattle.bm_latent.specs.WorkerState.{newcomer}
use Rattle.bm_master.specs.KnownWorkers.{KnownView, nothing_owed}
use Rattle.bm_operator.specs.ProgramWords.{IsEachPlaced}
use Rattle.bm_operator.specs.WaitNotice.{no_notice}
use Rattle.bm_master.specs.declared.values.StartFailure.{StartFailure}
use Rattle.bm_programs.specs.declared.worker_process.WorkerProcess.{WorkerProcess}

-- a process of it was started, and its end was not told
abbrev pub runs : WorkerProcess → Bool
runs p = is_some p.child

-- the same program without a process
abbrev pub without_process : WorkerProcess → WorkerProcess
without_process p = record p { child = None }

-- A start gives it a process. One that fails changes nothing.
abbrev pub Starts : {A : Type 0} → Result A StartFailure → WorkerProcess → WorkerProcess → Type 0
Starts (Ok x) old new = (new.words ≡ old.words) × (runs new ≡ true)
Starts (Err why) old new = new ≡ old

-- It loses the process that it had where that is told to have ended. Else it keeps what it has.
abbrev pub Looks : Bool → WorkerProcess → WorkerProcess → Type 0
Looks true old new = (runs old ≡ true) × (new ≡ without_process old)
Looks false old new = (new.words ≡ old.words) × (runs new ≡ runs old)

-- Whatever is done to its process, that counts as there until its end is told. What asks it leaves
-- the program as it is.
abbrev pub Ends : EndAct → WorkerProcess → WorkerProcess → Type 0
Ends act.Kill old new = (new.words ≡ old.words) × (runs new ≡ runs old)
Ends a old new = new ≡ old

-- The program of a worker has changed so. Where it has none, `missing` holds.
abbrev pub ChangesOne : Type 0 → (WorkerProcess → WorkerProcess → Type 0) → Option WorkerProcess → Option WorkerProcess → Type 0
ChangesOne missing change (Some old) (Some new) = change old new
ChangesOne missing change None None = missing
ChangesOne missing change old new = ⊥

abbrev pub ChangesAt : Type 0 → (WorkerProcess → WorkerProcess → Type 0) → Option (Option WorkerProcess) → ℕ → List (Option WorkerProcess) → List (Option WorkerProcess) → Type 0
ChangesAt missing change (Some before) worker old new =
    (after : Option WorkerProcess) × ChangesOne missing change before after × (new ≡ slice_set old worker after)
ChangesAt missing change None worker old new = missing × (new ≡ old)

-- The same of the program of this worker in the list of all. No other one has changed.
unfoldable pub Changes : Type 0 → (WorkerProcess → WorkerProcess → Type 0) → ℕ → List (Option WorkerProcess) → List (Option WorkerProcess) → Type 0
Changes missing change worker old new = ChangesAt missing change (slice_get old worker) worker old new

-- none of them has a process
abbrev pub all_without_process : List (Option WorkerProcess) → List (Option WorkerProcess)
all_without_process list = map (option_map without_process) list

-- the worker as it is known before anything is heard of it: one with words can be started by them
abbrev pub latent_of : Option (List (List ℕ)) → ℕ → Option LatentView
latent_of (Some words) ticks = Some (record { state = standing.Not; idle = 0; limit = max ticks 1 })
latent_of None ticks = None

abbrev pub unheard : WorkerConfig → KnownView
unheard w =
    record { machine = fresh (newcomer (latent_of w.latent w.idle_ticks)); waits = no_notice; owed = nothing_owed }

-- The program of a worker with these words, which was not started. There is one where there are
-- words.
abbrev pub IsProgramOf : List ℕ → Option (List (List ℕ)) → Option WorkerProcess → Type 0
IsProgramOf master (Some words) (Some p) = IsEachPlaced master words p.words × (p.child ≡ None)
IsProgramOf master None None = ⊤
IsProgramOf master words p = ⊥

-- that of each worker, in their order
abbrev pub AreProgramsOf : List ℕ → List WorkerConfig → List (Option WorkerProcess) → Type 0
AreProgramsOf master [] [] = ⊤
AreProgramsOf master (w ∷ ws) (p ∷ ps) = IsProgramOf master w.latent p × AreProgramsOf master ws ps
AreProgramsOf master ws ps = ⊥
