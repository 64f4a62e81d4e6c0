-- Which faults of a program's start may pass within a moment, and what they are called.
use Rattle.std.specs.Prelude.{ℤ, ℕ, pos, Bool, true, false, List, [], ◌++◌, codes, decimal, ◌||◌, Option, Some, None}
use Rattle.std.specs.Ordering.{int_eq}
use Rattle.std.specs.IoError.{error_kind, raw_os_error}
use Rattle.std.specs.declared.io.Error.{Error}
use Rattle.std.specs.declared.io.ErrorKind.{ErrorKind}
use Rattle.std.specs.declared.io.ErrorKind.TheVariants as kind
use Rattle.bm_master.specs.declared.values.StartFailure.{StartFailure}
use Rattle.bm_operator.specs.declared.reasons.ProgramRefusal.{ProgramRefusal}
use Rattle.bm_operator.specs.declared.reasons.ProgramRefusal.TheVariants as refusal

-- processes or memory are wanting
abbrev pub is_want : ErrorKind → Bool
is_want kind.WouldBlock = true
is_want kind.OutOfMemory = true
is_want why = false

-- descriptors are wanting, to the master or to all of its machine
abbrev pub is_full : Option ℤ → Bool
is_full (Some code) = int_eq code (pos 23) || int_eq code (pos 24)
is_full None = false

-- what is wanting may come back
abbrev pub may_pass : Option ℤ → ErrorKind → Bool
may_pass code why = is_full code || is_want why

-- what an operator is told of an error of this kind
abbrev pub refusal_of : ErrorKind → ProgramRefusal
refusal_of kind.NotFound = refusal.NotFound
refusal_of kind.PermissionDenied = refusal.Denied
refusal_of kind.OutOfMemory = refusal.Memory
refusal_of why = refusal.System

-- the system's error, as the coordinator is told of it
abbrev pub failure_of : Error → StartFailure
failure_of e = record { why = refusal_of (error_kind e); may_pass = may_pass (raw_os_error e) (error_kind e) }

-- Why words can't be made a command. Without a word there is no program, ever.
abbrev pub unmade : List (List ℕ) → StartFailure
unmade [] = record { why = refusal.NotFound; may_pass = false }
unmade words = record { why = refusal.Memory; may_pass = true }

-- the words by which a shell asks a process to end
abbrev pub asking : ℕ → List ℕ
asking id = codes "kill " ++ decimal id
