use Rattle.bm_link.proofs.Carried.{events_keep, orders_added, sessions_begin}
use Rattle.bm_link.proofs.laws.carried_orders_are_pending.Goals as goal

pub returns-clause-events : goal.returns-clause-events
returns-clause-events c = events_keep

pub returns-clause-orders : goal.returns-clause-orders
returns-clause-orders c = orders_added

pub returns-clause-sessions : goal.returns-clause-sessions
returns-clause-sessions c = sessions_begin
