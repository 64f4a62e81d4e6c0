use Rattle.bm_value.specs.View.{tree}
use Rattle.bm_link.specs.Received.{IsSaid}
use Rattle.bm_link.proofs.Spelled.{told_of_tree, untold_of_tree}
use Rattle.bm_link.proofs.received.incoming_from.Goals as goal

pub returns-in-Ok-clause-told : goal.returns-in-Ok-clause-told
returns-in-Ok-clause-told c =
    told_of_tree IsSaid c.args.bytes.now (tree c.in-Ok.tree) c.incoming_in.result c.in-Ok.ensures.found.0 c.in-Ok.ensures.found.1 c.incoming_in.ensures.told

pub returns-in-Ok-clause-bad : goal.returns-in-Ok-clause-bad
returns-in-Ok-clause-bad c = untold_of_tree IsSaid c.args.bytes.now (tree c.in-Ok.tree) c.incoming_in.result c.in-Ok.ensures.only c.incoming_in.ensures.bad
