use Rattle.bm_replay.proofs.Bytes.{bytes_are_read, bytes_are_the_event}
use Rattle.bm_replay.proofs.laws.bytes_are_the_event.Goals as goal

pub returns-clause-read : goal.returns-clause-read
returns-clause-read c = bytes_are_read

pub returns-clause-event : goal.returns-clause-event
returns-clause-event c = bytes_are_the_event
