use Rattle.bm_link.proofs.Spelled.{gives_no_login}
use Rattle.bm_link.proofs.login.login_of_bytes.Goals as goal

pub returns-clause-fault : goal.returns-clause-fault
returns-clause-fault c =
    gives_no_login c.args.bytes.now c.login_from-login.result c.login_from-login.ensures.bad c.login_from-login.ensures.fault
