-- What a sweep looks for, why one wasn't started, and whether it is begun again.
use Rattle.std.specs.Prelude.{◌≡◌, ℕ, ◌+◌, nat_lt, Bool, true, false, ◌&&◌, if◌then◌else◌, List, ◌∷◌, codes, IfSome, is_some}
use Rattle.std.specs.Process.{command_args, command_program}
use Rattle.std.specs.declared.alloc.Global.{Global}
use Rattle.std.specs.declared.process.command.Command.{Command}
use Rattle.std.specs.declared.io.ErrorKind.{ErrorKind}
use Rattle.std.specs.declared.io.ErrorKind.TheVariants as kind
use Rattle.bm_outbox.specs.declared.stopping.Sweep.{Sweep}
use Rattle.bm_outbox.specs.declared.stopping.Sweep.TheVariants as sweep
use Rattle.bm_worker_threads.specs.declared.sweeping.Sweeper.{Sweeper}

-- without a shell that may be run there is nothing to look with
abbrev pub unstarted : ErrorKind → Sweep
unstarted kind.NotFound = sweep.NoTools
unstarted kind.PermissionDenied = sweep.NoTools
unstarted _ = sweep.Failed

-- one that failed, where no look was possible
abbrev pub has_failed : Sweep → Bool
has_failed sweep.Failed = true
has_failed s = false

-- such a one is begun 250 times in all
abbrev pub is_begun_again : Sweep → ℕ → Bool
is_begun_again s begun = has_failed s && nat_lt begun 250

-- as long as it is begun again it counts as one that goes on
abbrev pub awaited : Sweep → ℕ → Sweep
awaited s begun = if is_begun_again s begun then sweep.Going else s

abbrev pub begun_after : Sweep → ℕ → ℕ
begun_after s begun = if is_begun_again s begun then begun + 1 else begun

-- what is told of a sweep that was looked at
abbrev pub seen : Sweeper → Sweep
seen s = if is_some s.child then sweep.Going else awaited s.state s.begun

-- one whose shell goes is one that goes on
abbrev pub Goes : Sweeper → Type 0
Goes s = IfSome s.child (λ _. s.state ≡ sweep.Going)

-- a shell that is given its script, and these marks to look for
abbrev pub IsShell : List (List ℕ) → Command Global → Type 0
IsShell marks c = (script : List ℕ) × (command_program c ≡ codes "/bin/sh")
    × (command_args c ≡ codes "-c" ∷ script ∷ codes "sweep" ∷ marks)

-- each time that it is begun it looks for these
abbrev pub LooksFor : List (List ℕ) → Sweeper → Type 0
LooksFor marks s = IfSome s.command (IsShell marks)
