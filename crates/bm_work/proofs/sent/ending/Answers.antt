use Rattle.std.proofs.Common.{Some, None, ◌+◌}
use Rattle.bm_work.proofs.Sizes.{complete-short}
use Rattle.bm_work.proofs.sent.ending.Goals as goal

pub numbered-requires-clause-short : goal.numbered-requires-clause-short
numbered-requires-clause-short c = complete-short (c.args.seq + 1) c.args.command None c.ranges.command.fits tt

pub numbered-requires-in-Fault-clause-short : goal.numbered-requires-in-Fault-clause-short
numbered-requires-in-Fault-clause-short c =
    complete-short c.args.seq c.args.command (Some c.in-Fault.text) c.ranges.command.fits (rw c.in-Fault.is at c.requires.short)
