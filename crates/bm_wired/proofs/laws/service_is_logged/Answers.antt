use Rattle.bm_wired.proofs.Service.{service_is_logged, all_of_service_is_seen}
use Rattle.bm_wired.proofs.laws.service_is_logged.Goals as goal

pub returns-clause-prefix : goal.returns-clause-prefix
returns-clause-prefix c = service_is_logged

pub returns-clause-whole : goal.returns-clause-whole
returns-clause-whole c = all_of_service_is_seen
