-- Why a command can't be started, and how that is told.
use Rattle.std.specs.Prelude.{ℕ, ℤ, pos, List, [], ◌∷◌, ◌++◌, codes, Option, Some, None, if◌then◌else◌}
use Rattle.std.specs.Ordering.{int_eq}
use Rattle.std.specs.declared.io.ErrorKind.{ErrorKind}
use Rattle.std.specs.declared.io.ErrorKind.TheVariants as kind
use Rattle.bm_outbox.specs.declared.start_fault.StartFault.{StartFault}
use Rattle.bm_outbox.specs.declared.start_fault.StartFault.TheVariants as fault

abbrev pub fault_of_kind : ErrorKind → StartFault
fault_of_kind kind.NotFound = fault.NoSuchFile
fault_of_kind kind.PermissionDenied = fault.PermissionDenied
fault_of_kind kind.NotADirectory = fault.NotADirectory
fault_of_kind kind.ArgumentListTooLong = fault.LongWords
fault_of_kind kind.WouldBlock = fault.NoProcess
fault_of_kind kind.OutOfMemory = fault.NoMemory
fault_of_kind _ = fault.Other

-- what the error of a start says, by its number and by its kind
abbrev pub fault_of : Option ℤ → ErrorKind → StartFault
fault_of (Some code) kind =
    if int_eq code (pos 8) then fault.ExecFormat else
    if int_eq code (pos 24) then fault.NoDescriptor else
    fault_of_kind kind
fault_of None kind = fault_of_kind kind

abbrev pub reason_of : StartFault → List ℕ
reason_of fault.NoSuchFile = codes "no such file"
reason_of fault.PermissionDenied = codes "permission denied"
reason_of fault.NotADirectory = codes "not a directory"
reason_of fault.ExecFormat = codes "exec format error"
reason_of fault.LongWords = codes "argument list too long"
reason_of fault.NoProcess = codes "no more processes"
reason_of fault.NoDescriptor = codes "too many open files"
reason_of fault.NoMemory = codes "out of memory"
reason_of fault.NoThread = codes "no thread for its output"
reason_of fault.Other = codes "other fault"

-- the line that tells why
abbrev pub fault_line : StartFault → List ℕ
fault_line why = codes "cannot start: " ++ (reason_of why ++ 10 ∷ [])
