use Rattle.bm_replay.proofs.Logged.{said_is_logged}
use Rattle.bm_replay.proofs.Settled.{all_said_is_logged}
use Rattle.bm_replay.proofs.OtherNames.{other_logs_are_empty}
use Rattle.bm_replay.proofs.SmallNumbers.{numbers_are_small}
use Rattle.bm_replay.proofs.laws.said_is_logged.Goals as goal

pub returns-clause-prefix : goal.returns-clause-prefix
returns-clause-prefix c = said_is_logged

pub returns-clause-whole : goal.returns-clause-whole
returns-clause-whole c = all_said_is_logged

pub returns-clause-others : goal.returns-clause-others
returns-clause-others c = other_logs_are_empty

pub returns-clause-numbers : goal.returns-clause-numbers
returns-clause-numbers c = numbers_are_small
