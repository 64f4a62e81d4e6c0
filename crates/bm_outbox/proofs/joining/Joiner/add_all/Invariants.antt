use Rattle.std.proofs.Common.{◌≡◌, ◌++◌, length}
use Rattle.bm_outbox.specs.Joining.{AreApart, all_of, lines_in, whole_of}
use Rattle.bm_work.specs.Cuts.{left_of, shown, texts_of}
use Rattle.bm_outbox.proofs.joining.Joiner.add_all.Given as goal

-- what was added, and what is to come
abbrev pub invariant-loop-end : goal.invariant-loop-end
invariant-loop-end l =
    (l.self.letter ≡ l.fn.self.letter)
    × (whole_of (all_of l.self) ++ whole_of (shown (texts_of l.rest)) ≡ whole_of (all_of l.fn.self) ++ whole_of (shown (texts_of l.fn.bytes)))
    × (lines_in l.fn.self.letter (all_of l.self) ++ lines_in l.fn.self.letter (shown (texts_of l.rest))
    ≡ lines_in l.fn.self.letter (all_of l.fn.self) ++ lines_in l.fn.self.letter (shown (texts_of l.fn.bytes)))
    × (left_of l.rest ≡ left_of l.fn.bytes)
    × (AreApart (all_of l.fn.self) → AreApart (all_of l.self))

abbrev pub decreases-loop-end : goal.decreases-loop-end
decreases-loop-end l = length l.rest
