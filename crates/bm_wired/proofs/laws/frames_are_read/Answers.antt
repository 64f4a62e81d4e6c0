use Rattle.bm_wired.proofs.Frames.{messages_have_frames, frames_are_read, parts_are_not_read, frames_are_apart}
use Rattle.bm_wired.proofs.laws.frames_are_read.Goals as goal

pub returns-clause-have : goal.returns-clause-have
returns-clause-have c = messages_have_frames

pub returns-clause-read : goal.returns-clause-read
returns-clause-read c = frames_are_read

pub returns-clause-part : goal.returns-clause-part
returns-clause-part c = parts_are_not_read

pub returns-clause-apart : goal.returns-clause-apart
returns-clause-apart c = frames_are_apart
