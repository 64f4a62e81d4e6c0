use Rattle.bm_link.proofs.Sames.{IsSeen}
use Rattle.bm_link.proofs.user.are_same.Given as goal

abbrev pub invariant-bytes : goal.invariant-bytes
invariant-bytes l = IsSeen l.same l.left l.right l.place
