use Rattle.bm_lane.proofs.Grows.{looks}
use Rattle.bm_lane.proofs.book_reader.look.Goals as goal

pub enter_as-requires : goal.enter_as-requires
enter_as-requires g c = looks _ _
