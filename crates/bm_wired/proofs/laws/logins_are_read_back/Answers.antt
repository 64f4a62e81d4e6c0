use Rattle.bm_wired.proofs.Greeted.{logins_are_read, login_answers_are_read, login_refusals_are_read}
use Rattle.bm_wired.proofs.laws.logins_are_read_back.Goals as goal

pub returns-clause-login : goal.returns-clause-login
returns-clause-login c = logins_are_read

pub returns-clause-taken : goal.returns-clause-taken
returns-clause-taken c = login_answers_are_read

pub returns-clause-refused : goal.returns-clause-refused
returns-clause-refused c = login_refusals_are_read
