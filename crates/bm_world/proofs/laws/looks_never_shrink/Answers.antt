use Rattle.bm_world.proofs.Later.{looks_never_shrink}
use Rattle.bm_world.proofs.laws.looks_never_shrink.Goals as goal

pub returns : goal.returns
returns c = looks_never_shrink
