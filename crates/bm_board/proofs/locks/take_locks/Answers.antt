use Rattle.std.proofs.Common.{◌<◌, length, arith}
use Rattle.bm_board.specs.declared.plan.LockUse.{LockUse}
use Rattle.bm_board.specs.declared.plan.Mode.TheVariants.{Counting}
use Rattle.bm_board.proofs.Uses.{shares_more}
use Rattle.bm_board.proofs.LockCounts.{first_at_its_lock}
use Rattle.bm_board.proofs.locks.take_locks.Goals as goal

pub take_lock-requires-clause-room : goal.take_lock-requires-clause-room
take_lock-requires-clause-room c = λ e.
    let uses = c.args.uses.now in
    let i = c.loop-u.u-index in
    let d : LockUse = record { lock = 0; mode = Counting } in
    let l : i < length uses = omega arith in
    omega (arith, first_at_its_lock _ c.args.mode uses i d c.args.counts.now c.loop-u.counts c.requires.distinct l e (c.requires.there i d l) c.loop-u.invariant, c.requires.room i d l e)

pub loop-u-preserved : goal.loop-u-preserved
loop-u-preserved c = λ lock l.
    let uses = c.args.uses.now in
    let i = c.loop-u.u-index in
    let d : LockUse = record { lock = 0; mode = Counting } in
    omega (arith, c.loop-u.invariant lock l, c.take_lock.ensures lock (omega arith), shares_more c.args.mode lock uses i d c.requires.distinct (omega arith))
