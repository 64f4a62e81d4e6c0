use Rattle.bm_value.specs.View.{tree}
use Rattle.bm_replay.proofs.HeardBytes.{hears-event, hears-nothing, hears-spelled, hears-told}
use Rattle.bm_replay.proofs.incoming.event_of.Goals as goal

pub returns-in-Err-Mem : goal.returns-in-Err-Mem
returns-in-Err-Mem c = hears-nothing c.args.bytes.now

pub returns-in-Err : goal.returns-in-Err
returns-in-Err c = hears-spelled c.args.bytes.now c.in-Err.fault c.in-Err.ensures.only

pub returns-in-Ok-of_value : goal.returns-in-Ok-of_value
returns-in-Ok-of_value c =
    hears-event c.args.bytes.now (tree c.in-Ok.tree) c.in-Ok-of_value.event c.in-Ok.ensures.found.0 c.in-Ok-of_value.ensures.only

pub returns-in-Err-Mem-of_value : goal.returns-in-Err-Mem-of_value
returns-in-Err-Mem-of_value c = hears-nothing c.args.bytes.now

pub returns : goal.returns
returns c =
    hears-told c.args.bytes.now (tree c.in-Ok.tree) c.in-Err-of_value.fault c.in-Ok.ensures.found.0 c.in-Err-of_value.ensures.wants
