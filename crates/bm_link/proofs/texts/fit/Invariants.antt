use Rattle.std.proofs.Common.{◌≡◌, drop, nat_le, sum_by, length}
use Rattle.bm_link.proofs.texts.fit.Given as goal

abbrev pub invariant-loop-text : goal.invariant-loop-text
invariant-loop-text l =
    nat_le (sum_by length l.texts) l.most
    ≡ nat_le (sum_by length (drop l.text-index l.texts)) l.room
