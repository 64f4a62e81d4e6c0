use Rattle.bm_replay.proofs.Lines.{left_over}
use Rattle.bm_replay.proofs.replay.Lane.answer_lines.Given as goal

abbrev pub decreases-lines : goal.decreases-lines
decreases-lines g l = left_over l.left
