use Rattle.bm_replay.proofs.Words.{name-none}
use Rattle.bm_replay.proofs.script.named.Goals as goal

pub returns-in-None-clause-name : goal.returns-in-None-clause-name
returns-in-None-clause-name c = name-none c.args.words.now c.in-None.ensures.cases
