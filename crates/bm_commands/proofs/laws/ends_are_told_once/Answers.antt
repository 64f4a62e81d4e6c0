use Rattle.bm_commands.proofs.Lawful.{ends_once, silent_behind_end}
use Rattle.bm_commands.proofs.laws.ends_are_told_once.Goals as goal

pub returns-clause-once : goal.returns-clause-once
returns-clause-once c = ends_once

pub returns-clause-silent : goal.returns-clause-silent
returns-clause-silent c = silent_behind_end
