-- What the process of a command is started by. Which faults of a start may pass within a moment.
use Rattle.std.specs.Prelude.{◌≡◌, ◌≢◌, ℕ, Bool, true, false, List, [], ◌∷◌, codes, drop, Some, None}
use Rattle.std.specs.Process.{clears_env, command_args, command_program, command_var}
use Rattle.std.specs.declared.alloc.Global.{Global}
use Rattle.std.specs.declared.process.command.Command.{Command}
use Rattle.bm_outbox.specs.declared.start_fault.StartFault.{StartFault}
use Rattle.bm_outbox.specs.declared.start_fault.StartFault.TheVariants as fault

-- what is wanting may come back
abbrev pub may_pass : StartFault → Bool
may_pass fault.NoProcess = true
may_pass fault.NoDescriptor = true
may_pass fault.NoMemory = true
may_pass why = false

-- the variable that each command is given
abbrev pub variable : List ℕ
variable = codes "BUILDWORKER_COMMAND"

-- without words there is no program
abbrev pub program_of : List (List ℕ) → List ℕ
program_of [] = []
program_of (word ∷ rest) = word

-- Its words are those of the command. Its environment is the worker's, but for its mark.
abbrev pub IsCommand : List (List ℕ) → List ℕ → Command Global → Type 0
IsCommand words mark c = (command_program c ≡ program_of words) × (command_args c ≡ drop 1 words)
    × (command_var c variable ≡ Some (Some mark))
    × ((k : List ℕ) → k ≢ variable → command_var c k ≡ None) × (clears_env c ≡ false)
