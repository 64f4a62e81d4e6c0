use Rattle.bm_wired.proofs.BytesExample.{bytes_show_lines}
use Rattle.bm_wired.proofs.laws.bytes_show_lines.Goals as goal

pub returns : goal.returns
returns c = bytes_show_lines
