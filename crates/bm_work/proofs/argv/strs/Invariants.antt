use Rattle.std.proofs.Common.{◌≡◌, ◌<◌, drop, length}
use Rattle.bm_work.proofs.Strs.{onto, strs_in}
use Rattle.bm_work.proofs.argv.strs.Given as goal

-- the words so far, and those to come
abbrev pub invariant-loop-item : goal.invariant-loop-item
invariant-loop-item l = (0 < length l.item-items) × (onto l.words.items (strs_in (drop l.item-index l.item-items)) ≡ strs_in l.item-items)
