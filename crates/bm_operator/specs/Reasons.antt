-- Why a worker is lost, and why a login, a step or a program is refused.
use Rattle.std.specs.Prelude.{ℕ, List, codes}
use Rattle.bm_operator.specs.declared.reasons.LossCause.{LossCause}
use Rattle.bm_operator.specs.declared.reasons.LossCause.TheVariants.{Closed, Stream, BadMessage, Full, Memory, Expired, Dismissed, Ended, Replaced}
use Rattle.bm_operator.specs.declared.reasons.LoginRefusal.{LoginRefusal}
use Rattle.bm_operator.specs.declared.reasons.LoginRefusal.TheVariants.{BadLogin, AlreadyUp, Busy, Full as RefusedFull, BadMessage as RefusedMessage, Closed as RefusedClosed, Stream as RefusedStream, Late, Crowded, NoThread, Memory as RefusedMemory, Closing as RefusedClosing}
use Rattle.bm_operator.specs.declared.reasons.StartRefusal.{StartRefusal}
use Rattle.bm_operator.specs.declared.reasons.StartRefusal.TheVariants as start
use Rattle.bm_operator.specs.declared.reasons.StepLimit.{StepLimit}
use Rattle.bm_operator.specs.declared.reasons.StepLimit.TheVariants as limit
use Rattle.bm_operator.specs.declared.reasons.ProgramRefusal.{ProgramRefusal}
use Rattle.bm_operator.specs.declared.reasons.ProgramRefusal.TheVariants as program

-- why a worker is lost
abbrev pub loss_text : LossCause → List ℕ
loss_text Closed = codes "closed"
loss_text Stream = codes "stream failed"
loss_text BadMessage = codes "bad message"
loss_text Full = codes "full"
loss_text Memory = codes "out of memory"
loss_text Expired = codes "not resumed in time"
loss_text Dismissed = codes "told to shut down"
loss_text Ended = codes "its process ended"
loss_text Replaced = codes "another session"

-- why a login is refused
abbrev pub refusal_text : LoginRefusal → List ℕ
refusal_text BadLogin = codes "bad login"
refusal_text AlreadyUp = codes "already up"
refusal_text Busy = codes "busy"
refusal_text RefusedFull = codes "full"
refusal_text RefusedMessage = codes "bad message"
refusal_text RefusedClosed = codes "closed"
refusal_text RefusedStream = codes "stream failed"
refusal_text Late = codes "no login in time"
refusal_text Crowded = codes "too many connections"
refusal_text NoThread = codes "no thread"
refusal_text RefusedMemory = codes "out of memory"
refusal_text RefusedClosing = codes "the master ends"

-- why a step wasn't started
abbrev pub start_text : StartRefusal → List ℕ
start_text start.Cancelled = codes "cancelled"
start_text start.Lost = codes "worker lost"
start_text start.Full = codes "full"
start_text start.TooLong = codes "command too long"
start_text start.Memory = codes "out of memory"

-- which limit a step has reached
abbrev pub limit_text : StepLimit → List ℕ
limit_text limit.Bytes = codes "max_bytes"
limit_text limit.Ticks = codes "timeout_ticks"
limit_text limit.Silence = codes "silent_ticks"

-- why the program of a worker wasn't started
abbrev pub program_text : ProgramRefusal → List ℕ
program_text program.NotFound = codes "no such file"
program_text program.Denied = codes "permission denied"
program_text program.Memory = codes "out of memory"
program_text program.System = codes "refused by the system"
