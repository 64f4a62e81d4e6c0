use Rattle.bm_link.proofs.Fitting.{asks_fit, logins_fit, orders_fit}
use Rattle.bm_link.proofs.laws.short_texts_fit.Goals as goal

pub returns-clause-orders : goal.returns-clause-orders
returns-clause-orders c = orders_fit

pub returns-clause-asks : goal.returns-clause-asks
returns-clause-asks c = asks_fit

pub returns-clause-logins : goal.returns-clause-logins
returns-clause-logins c = logins_fit
