use Rattle.bm_work.proofs.TextLaws.{texts_are_the_bytes, texts_end_where_they_must, pieces_play_no_part}
use Rattle.bm_work.proofs.laws.texts_are_the_bytes.Goals as goal

pub returns-clause-whole : goal.returns-clause-whole
returns-clause-whole c = texts_are_the_bytes

pub returns-clause-ends : goal.returns-clause-ends
returns-clause-ends c = texts_end_where_they_must

pub returns-clause-pieces : goal.returns-clause-pieces
returns-clause-pieces c = pieces_play_no_part
