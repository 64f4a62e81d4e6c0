use Rattle.std.proofs.Common.{◌≡◌, ◌++◌, [], length}
use Rattle.bm_work.specs.Cuts.{texts_after, left_after, shown}
use Rattle.bm_work.proofs.assembler.push_texts.Given as goal

-- the texts so far, and those to come
abbrev pub invariant-loop-end : goal.invariant-loop-end
invariant-loop-end l =
    (l.texts.items ++ shown (texts_after [] l.rest) ≡ l.fn.texts.items ++ shown (texts_after [] l.fn.bytes)) × (left_after [] l.rest ≡ left_after [] l.fn.bytes)

abbrev pub decreases-loop-end : goal.decreases-loop-end
decreases-loop-end l = length l.rest
