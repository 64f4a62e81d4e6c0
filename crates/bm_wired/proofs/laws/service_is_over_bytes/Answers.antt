use Rattle.bm_wired.proofs.Service.{service_is_over_bytes}
use Rattle.bm_wired.proofs.ServiceBack.{over_bytes_is_service}
use Rattle.bm_wired.proofs.laws.service_is_over_bytes.Goals as goal

pub returns-clause-bytes : goal.returns-clause-bytes
returns-clause-bytes c = service_is_over_bytes

pub returns-clause-back : goal.returns-clause-back
returns-clause-back c = over_bytes_is_service
