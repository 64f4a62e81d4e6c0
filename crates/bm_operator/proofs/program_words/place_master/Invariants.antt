use Rattle.std.proofs.Common.{take}
use Rattle.bm_operator.specs.ProgramWords.{IsEachPlaced}
use Rattle.bm_operator.proofs.program_words.place_master.Given as goal

abbrev pub invariant-loop-word : goal.invariant-loop-word
invariant-loop-word l = IsEachPlaced l.master (take l.word-index l.words) l.all.items
