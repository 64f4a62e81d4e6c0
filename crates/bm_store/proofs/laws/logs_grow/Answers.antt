use Rattle.bm_store.proofs.Growing.{logs_grow}
use Rattle.bm_store.proofs.laws.logs_grow.Goals as goal

pub returns : goal.returns
returns c = logs_grow
