use Rattle.bm_msg.proofs.Logins.{first_logins, logins_back}
use Rattle.bm_msg.proofs.laws.logins_are_read.Goals as goal

pub returns-clause-first : goal.returns-clause-first
returns-clause-first c = first_logins

pub returns-clause-read : goal.returns-clause-read
returns-clause-read c = logins_back
