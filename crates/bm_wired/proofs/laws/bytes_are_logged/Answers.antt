use Rattle.bm_wired.proofs.Bytes.{bytes_are_messages, bytes_are_logged, all_bytes_are_logged}
use Rattle.bm_wired.proofs.laws.bytes_are_logged.Goals as goal

pub returns-clause-messages : goal.returns-clause-messages
returns-clause-messages c = bytes_are_messages

pub returns-clause-prefix : goal.returns-clause-prefix
returns-clause-prefix c = bytes_are_logged

pub returns-clause-whole : goal.returns-clause-whole
returns-clause-whole c = all_bytes_are_logged
