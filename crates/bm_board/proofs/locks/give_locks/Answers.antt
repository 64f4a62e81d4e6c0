use Rattle.std.proofs.Common.{◌<◌, length, arith}
use Rattle.bm_board.specs.declared.plan.LockUse.{LockUse}
use Rattle.bm_board.specs.declared.plan.Mode.TheVariants.{Counting}
use Rattle.bm_board.proofs.Uses.{shares_more}
use Rattle.bm_board.proofs.LockCounts.{first_at_its_lock}
use Rattle.bm_board.proofs.locks.give_locks.Goals as goal

pub give_lock-requires-clause-held : goal.give_lock-requires-clause-held
give_lock-requires-clause-held c = λ e.
    let uses = c.args.uses.now in
    let i = c.loop-u.u-index in
    let d : LockUse = record { lock = 0; mode = Counting } in
    let l : i < length uses = omega arith in
    omega (arith, first_at_its_lock _ c.args.mode uses i d c.loop-u.counts c.args.counts.now c.requires.distinct l e (c.requires.there i d l) c.loop-u.invariant, c.requires.held i d l e)

pub loop-u-preserved : goal.loop-u-preserved
loop-u-preserved c = λ lock l.
    let uses = c.args.uses.now in
    let i = c.loop-u.u-index in
    let d : LockUse = record { lock = 0; mode = Counting } in
    omega (arith, c.loop-u.invariant lock l, c.give_lock.ensures lock (omega arith), shares_more c.args.mode lock uses i d c.requires.distinct (omega arith))
