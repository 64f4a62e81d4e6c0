use Rattle.bm_worker_threads.proofs.MarkTexts.{if_some}
use Rattle.bm_worker_threads.proofs.marks.place_of.Goals as goal

pub returns : goal.returns
returns g c = if_some c.place_text.result (λ text is. (c.in_ok-namespace.namespace.now, c.in_ok-user.user.now, is)) c.place_text.ensures
