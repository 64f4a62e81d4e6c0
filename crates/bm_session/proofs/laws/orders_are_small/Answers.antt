use Rattle.bm_session.proofs.Orders.{orders_are_small}
use Rattle.bm_session.proofs.laws.orders_are_small.Goals as goal

pub returns : goal.returns
returns c = orders_are_small
