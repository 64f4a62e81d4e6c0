use Rattle.bm_replay.proofs.Lines.{cut_shortens}
use Rattle.bm_replay.proofs.replay.Lane.answer_lines.Goals as goal

pub lines-smaller : goal.lines-smaller
lines-smaller g c = rw c.in-Some.is (cut_shortens _ _ _ c.cut_line.ensures.cut)
