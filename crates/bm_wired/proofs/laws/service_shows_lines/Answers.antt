use Rattle.bm_wired.proofs.ServiceExample.{service_shows_lines}
use Rattle.bm_wired.proofs.laws.service_shows_lines.Goals as goal

pub returns : goal.returns
returns c = service_shows_lines
