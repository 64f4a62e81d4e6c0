use Rattle.bm_wired.proofs.CutExample.{cuts_show_lines}
use Rattle.bm_wired.proofs.laws.cuts_show_lines.Goals as goal

pub returns : goal.returns
returns c = cuts_show_lines
