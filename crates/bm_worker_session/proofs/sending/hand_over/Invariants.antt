use Rattle.std.proofs.Common.{take, true}
use Rattle.bm_worker_session.specs.Sessions.{HandsOver}
use Rattle.bm_worker_session.proofs.sending.hand_over.Given as goal

-- the requests so far were sent
abbrev pub invariant-loop-request : goal.invariant-loop-request
invariant-loop-request g l = HandsOver g.S.Write.contents (take l.request-index l.requests) l.initial.link true l.link
