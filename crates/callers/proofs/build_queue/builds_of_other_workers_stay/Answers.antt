use Rattle.callers.proofs.QueueGivenUp.{others_stay}
use Rattle.callers.proofs.build_queue.builds_of_other_workers_stay.Goals as goal

pub returns : goal.returns
returns g c = others_stay _ _ _ _ c.give_up_one.ensures.first c.give_up_one.ensures.given_up c.give_up_one.ensures.unchanged
