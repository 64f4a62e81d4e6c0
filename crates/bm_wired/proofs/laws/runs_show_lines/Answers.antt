use Rattle.bm_wired.proofs.Example.{runs_show_lines}
use Rattle.bm_wired.proofs.laws.runs_show_lines.Goals as goal

pub returns : goal.returns
returns c = runs_show_lines
