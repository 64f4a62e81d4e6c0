-- What waits to be told, and what telling it does to the worker's core.
use Rattle.std.specs.Prelude.{◌≡◌, ℕ, List, [], ◌∷◌, length, codes, Some, None, Result, Ok, Err}
use Rattle.std.specs.declared.alloc.AllocError.{AllocError}
use Rattle.bm_work.specs.Core.{Core, next_number, refusal, with_reports, without_command}
use Rattle.bm_work.specs.Reports.{reports_of}
use Rattle.bm_work.specs.Stream.{Report, text, stream_from}
use Rattle.bm_work.specs.declared.act.WorkRefusal.TheVariants.{NoSuchCommand, Window}
use Rattle.bm_work.specs.declared.sent.Finish.{Finish}
use Rattle.bm_work.specs.declared.sent.Finish.TheVariants.{Rc, Fault}
use Rattle.bm_outbox.specs.declared.ending.Ending.{Ending}
use Rattle.bm_outbox.specs.declared.ending.Ending.TheVariants as ending
use Rattle.bm_outbox.specs.declared.outbox_entry.OutboxEntry.{OutboxEntry}
use Rattle.bm_outbox.specs.declared.outbox_entry.OutboxEntry.TheVariants as entry
use Rattle.bm_outbox.specs.declared.progress.Progress.{Progress}
use Rattle.bm_outbox.specs.declared.progress.Progress.TheVariants as progress

-- what a master is told of an end: an exit code, or the text of a fault
abbrev pub finish_of : Ending → Finish
finish_of (ending.Code code) = Rc code.code
finish_of ending.CannotStart = Fault (codes "cannot start")
finish_of ending.Interrupted = Fault (codes "interrupted")
finish_of ending.NoMemory = Fault (codes "out of memory")

abbrev pub command_of : OutboxEntry → ℕ
command_of (entry.Text k said) = k
command_of (entry.End k e) = k

-- an exit code is told of the command whose pipes gave it, and of no other
abbrev pub IsOwnEnding : ℕ → Ending → Type 0
IsOwnEnding k (ending.Code code) = code.command ≡ k
IsOwnEnding k _ = Unit {0}

abbrev pub TellsOwnCode : OutboxEntry → Type 0
TellsOwnCode (entry.Text k said) = Unit {0}
TellsOwnCode (entry.End k e) = IsOwnEnding k e

-- what the worker reports of it
abbrev pub reports_in : OutboxEntry → List Report
reports_in (entry.Text k said) = text k said.letter said.text ∷ []
reports_in (entry.End k e) = reports_of k (finish_of e)

-- the core that has reported it: after its end a command runs no more
abbrev pub told_core : OutboxEntry → Core → Core
told_core (entry.Text k said) c = with_reports (text k said.letter said.text ∷ []) c
told_core (entry.End k e) c = without_command k (with_reports (reports_of k (finish_of e)) c)

-- telling an item: its command runs, the window has the places, and its requests have the next
-- numbers. Or nothing changed, since the window lacks the places or its command runs no more.
abbrev pub Tells : OutboxEntry → Core → Result Progress AllocError → Core → Type 0
Tells i c (Ok (progress.Text s)) c2 =
    (refusal c (command_of i) (length (reports_in i)) ≡ None)
    × (s ∷ [] ≡ stream_from (next_number c) (reports_in i)) × (c2 ≡ told_core i c)
Tells i c (Ok (progress.End v)) c2 =
    (refusal c (command_of i) (length (reports_in i)) ≡ None)
    × (v.items ≡ stream_from (next_number c) (reports_in i)) × (c2 ≡ told_core i c)
Tells i c (Ok progress.Full) c2 =
    (refusal c (command_of i) (length (reports_in i)) ≡ Some Window) × (c2 ≡ c)
Tells i c (Ok progress.Passed) c2 =
    (refusal c (command_of i) (length (reports_in i)) ≡ Some NoSuchCommand) × (c2 ≡ c)
Tells i c (Ok progress.Nothing) c2 = ⊥
Tells i c (Err e) c2 = c2 ≡ c
