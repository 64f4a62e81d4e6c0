use Rattle.bm_web_server.proofs.Joining.{pieces_are_the_text}
use Rattle.bm_web_server.proofs.laws.pieces_are_the_text.Goals as goal

pub returns : goal.returns
returns c = pieces_are_the_text
