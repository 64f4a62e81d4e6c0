use Rattle.std.proofs.Common.{arith, rules}
use Rattle.bm_worker_threads.proofs.LastColon.{rsplit_once_char}
use Rattle.bm_worker_threads.specs.Arguments.{is_address}
use Rattle.bm_worker_threads.proofs.arguments.is_address.Goals as goal

pub returns-in-Some : goal.returns-in-Some
returns-in-Some c =
    let split = rsplit_once_char 58 c.args.address.now _ c.rsplit_once.ensures.cases (omega arith) in
    rw (← split) (grind rules)

pub returns-in-None : goal.returns-in-None
returns-in-None c =
    let split = rsplit_once_char 58 c.args.address.now _ c.rsplit_once.ensures.cases (omega arith) in
    rw (← split) (grind rules)
