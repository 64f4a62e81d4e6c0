use Rattle.bm_build_queue.proofs.Staying.{results_stay as stay}
use Rattle.bm_build_queue.proofs.laws.results_stay.Goals as goal

pub returns : goal.returns
returns c = stay
