use Rattle.bm_value.specs.View.{tree}
use Rattle.bm_msg.proofs.Heard.{refused_along, refused_not, refused_bad_args, nothing_said, message_wanted}
use Rattle.bm_msg.proofs.incoming.Incoming.read.Goals as goal

pub returns-in-Ok-clause-refused : goal.returns-in-Ok-clause-refused
returns-in-Ok-clause-refused g c = refused_not (tree c.args.value.now) c.in-Ok.message _ c.in-Ok.ensures.refused

pub returns-in-Err-NotMap-clause-only : goal.returns-in-Err-NotMap-clause-only
returns-in-Err-NotMap-clause-only g c = nothing_said (tree c.args.value.now) c.in-Err-NotMap.field-0 c.in-Err-NotMap.field-0-is c.in-Err-NotMap.ensures.only c.in-Err-NotMap.ensures.refused

pub returns-in-Err-NotMap-clause-refused : goal.returns-in-Err-NotMap-clause-refused
returns-in-Err-NotMap-clause-refused g c = refused_along (tree c.args.value.now) c.in-Err-NotMap.field-0 _ c.in-Err-NotMap.field-0-is c.in-Err-NotMap.ensures.refused

pub returns-in-Err-NoOp-clause-refused : goal.returns-in-Err-NoOp-clause-refused
returns-in-Err-NoOp-clause-refused g c = refused_along (tree c.args.value.now) c.in-Err-NoOp.field-0 _ c.in-Err-NoOp.field-0-is c.in-Err-NoOp.ensures.refused

pub returns-in-Err-BadArgs-clause-refused : goal.returns-in-Err-BadArgs-clause-refused
returns-in-Err-BadArgs-clause-refused g c = refused_bad_args (tree c.args.value.now) c.in-Err-BadArgs.field-0 _ _ c.in-Err-BadArgs.field-0-is c.in-Err-BadArgs.ensures.refused

pub returns-in-Err-Mem-clause-only : goal.returns-in-Err-Mem-clause-only
returns-in-Err-Mem-clause-only g c = message_wanted (tree c.args.value.now) c.in-Err-Mem.field-0 c.in-Err-Mem.field-0-is c.in-Err-Mem.ensures.refused

pub returns-in-Err-Mem-clause-refused : goal.returns-in-Err-Mem-clause-refused
returns-in-Err-Mem-clause-refused g c = refused_along (tree c.args.value.now) c.in-Err-Mem.field-0 _ c.in-Err-Mem.field-0-is c.in-Err-Mem.ensures.refused
