-- What is done with a worker's processes at a time, as their machine asks.
use Rattle.std.specs.Prelude.{◌≡◌, ◌≤◌, ℕ, suc, zero, Bool, true, false, List, position}
use Rattle.bm_commands.specs.Queues.{QueuesView, stepped}
use Rattle.bm_commands.specs.declared.values.Effect.{Effect}
use Rattle.bm_commands.specs.declared.values.Effect.TheVariants as effect
use Rattle.bm_commands.specs.declared.values.Input.TheVariants as input
use Rattle.bm_commands.specs.declared.values.ProcessInput.TheVariants as told
use Rattle.bm_commands.specs.declared.values.ProcessLook.{ProcessLook}
use Rattle.bm_worker_threads.specs.Carrying.{ChangesOf, IsKilled, LooksAt}
use Rattle.bm_worker_threads.specs.Marks.{MarkTexts}
use Rattle.bm_worker_threads.specs.Turns.{is_of, without}
use Rattle.bm_worker_threads.specs.declared.process_parts.ProcessParts.{ProcessParts}

-- the machine asks for something at a time
abbrev pub is_asked : Effect → Bool
is_asked (effect.Kill process) = true
is_asked (effect.Look process) = true
is_asked (effect.Forget process) = true
is_asked e = false

-- What is done where the machine asks for this at a time. It is told what a look shows.
abbrev pub DoesAt : MarkTexts → ℕ → Effect → QueuesView → List ProcessParts → QueuesView → List ProcessParts → Type 0
DoesAt marks now (effect.Kill process) q old q2 new =
    (q2 ≡ q) × ChangesOf process (IsKilled marks) old new
DoesAt marks now (effect.Look process) q old q2 new =
    (look : ProcessLook) × LooksAt (position (is_of process) old) look old new
    × (q2 ≡ (stepped q now (input.Process process (told.Looked look))).0)
DoesAt marks now (effect.Forget process) q old q2 new = (q2 ≡ q) × (new ≡ without process old)
DoesAt marks now e q old q2 new = (q2 ≡ q) × (new ≡ old)

-- the machine is asked once, and that is done
abbrev pub AsksOnce : MarkTexts → ℕ → QueuesView → List ProcessParts → QueuesView → List ProcessParts → Type 0
AsksOnce marks now q old q2 new =
    DoesAt marks now (stepped q now input.Tick).1 (stepped q now input.Tick).0 old q2 new

-- it is asked so many times, and each time it asks for something
abbrev pub Asks : MarkTexts → ℕ → ℕ → QueuesView → List ProcessParts → QueuesView → List ProcessParts → Type 0
Asks marks now zero q old q2 new = (q2 ≡ q) × (new ≡ old)
Asks marks now (suc n) q old q2 new =
    (mid : QueuesView) × (parts : List ProcessParts) × Asks marks now n q old mid parts
    × (is_asked (stepped mid now input.Tick).1 ≡ true) × AsksOnce marks now mid parts q2 new

-- it is asked until it asks for nothing more
abbrev pub Ticks : MarkTexts → ℕ → QueuesView → List ProcessParts → QueuesView → List ProcessParts → Type 0
Ticks marks now q old q2 new =
    (n : ℕ) × (mid : QueuesView) × Asks marks now n q old mid new
    × (is_asked (stepped mid now input.Tick).1 ≡ false) × (q2 ≡ (stepped mid now input.Tick).0)

-- the session of the commands is lost, and all is done that the time asks for behind that
abbrev pub Loses : MarkTexts → ℕ → QueuesView → List ProcessParts → QueuesView → List ProcessParts → Type 0
Loses marks now q old q2 new =
    (lost_ms : ℕ) × (lost_ms ≤ now) × Ticks marks now (stepped q lost_ms input.SessionLost).0 old q2 new
