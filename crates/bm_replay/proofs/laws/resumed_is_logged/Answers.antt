use Rattle.bm_replay.proofs.Resumptions.{resumed_is_schedule, resumed_is_logged, all_resumed_is_logged, other_resumed_logs_are_empty, sent_are_requests}
use Rattle.bm_replay.proofs.laws.resumed_is_logged.Goals as goal

pub returns-clause-prefix : goal.returns-clause-prefix
returns-clause-prefix c = resumed_is_logged

pub returns-clause-whole : goal.returns-clause-whole
returns-clause-whole c = all_resumed_is_logged

pub returns-clause-schedule : goal.returns-clause-schedule
returns-clause-schedule c = resumed_is_schedule

pub returns-clause-sent : goal.returns-clause-sent
returns-clause-sent c = sent_are_requests

pub returns-clause-others : goal.returns-clause-others
returns-clause-others c = other_resumed_logs_are_empty
