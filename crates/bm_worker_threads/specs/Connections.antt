-- What a worker does about a connection, by its login, its silence, its messages and its end.
use Rattle.std.specs.Prelude.{◌≡◌, ℕ, Bool, true, false, Option, Some, None, Result, Ok, Err}
use Rattle.bm_link.specs.declared.attaching.Attached.{Attached}
use Rattle.bm_link.specs.declared.attaching.Attached.TheVariants as attached
use Rattle.bm_link.specs.declared.fault.LinkFault.{LinkFault}
use Rattle.bm_link.specs.declared.fault.LinkFault.TheVariants as fault
use Rattle.bm_link.specs.declared.turn.Turn.{Turn}
use Rattle.bm_link.specs.declared.turn.Turn.TheVariants as turn
use Rattle.bm_outbox.specs.Tries.{TriesState, after_connection, after_fault, pause_before}
use Rattle.bm_outbox.specs.declared.tries.ConnectFault.{ConnectFault}
use Rattle.bm_outbox.specs.declared.tries.ConnectFault.TheVariants as why
use Rattle.bm_worker_threads.specs.declared.connection.ConnectionEnd.{ConnectionEnd}
use Rattle.bm_worker_threads.specs.declared.connection.ConnectionEnd.TheVariants as end

-- only a wrong name or password is a refusal
abbrev pub end_of_login : LinkFault → ConnectionEnd
end_of_login fault.BadLogin = end.Refused
end_of_login other = end.Lost

-- what ran in a session that wasn't resumed is killed
abbrev pub keeps_commands : Attached → Bool
keeps_commands attached.Resumed = true
keeps_commands other = false

-- A message of the master begins the count of tries afresh. Pings and pongs are none, as what was
-- read of no message.
abbrev pub is_message : Turn → Bool
is_message turn.Heard = true
is_message turn.Noted = true
is_message other = false

-- Why it connects again, or else its exit status. It ends where its master ended its work, and
-- where memory is wanting.
abbrev pub after_end : ConnectionEnd → Result ConnectFault ℕ
after_end end.Shutdown = Err 0
after_end end.Closed = Err 0
after_end end.NoMemory = Err 1
after_end end.Refused = Ok why.Refused
after_end end.Lost = Ok why.NoAnswer

-- it gives up behind its last try
abbrev pub pause_or_status : Option ℕ → Result ℕ ℕ
pause_or_status (Some pause) = Ok pause
pause_or_status None = Err 1

-- after how many milliseconds it connects again, or else its exit status
abbrev pub TriesAgain : Result ConnectFault ℕ → ℕ → TriesState → Result ℕ ℕ → TriesState → Type 0
TriesAgain (Ok fault) now old r new =
    (r ≡ pause_or_status (pause_before fault now (after_connection now old)))
    × (new ≡ after_fault fault now (after_connection now old))
TriesAgain (Err status) now old r new = (r ≡ Err status) × (new ≡ old)
