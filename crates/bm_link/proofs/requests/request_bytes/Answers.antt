use Rattle.std.proofs.Common.{ap, arith, Err}
use Rattle.bm_msg.proofs.Writable.{nests, request_short}
use Rattle.bm_msg.specs.Meaning.{asked, request}
use Rattle.bm_link.proofs.requests.request_bytes.Goals as goal

-- it nests no deeper than it may
pub unreachable-requires : goal.unreachable-requires
unreachable-requires c =
    omega (arith, c.in-Err-TooDeep.ensures.deep.0 (ap Err c.in-Err-TooDeep.field-0-is), nests (request c.args.seq (asked c.args.message)) c.requires.flat)

-- no part of it is too long
pub unreachable-requires-in-Err-TooLong : goal.unreachable-requires-in-Err-TooLong
unreachable-requires-in-Err-TooLong c =
    (c.in-Err-TooLong.ensures.long.0 (ap Err c.in-Err-TooLong.field-0-is)).1 (request_short c.args.seq (asked c.args.message) c.requires.short)
