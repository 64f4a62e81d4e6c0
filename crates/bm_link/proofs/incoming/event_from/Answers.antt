use Rattle.bm_value.specs.View.{tree}
use Rattle.bm_session.specs.Heard.{IsEvent}
use Rattle.bm_link.proofs.Spelled.{told_of_tree, untold_of_tree}
use Rattle.bm_link.proofs.incoming.event_from.Goals as goal

pub returns-in-Ok-clause-event : goal.returns-in-Ok-clause-event
returns-in-Ok-clause-event c =
    told_of_tree IsEvent c.args.bytes.now (tree c.in-Ok.tree) c.event_in.result c.in-Ok.ensures.found.0 c.in-Ok.ensures.found.1 c.event_in.ensures.event

pub returns-in-Ok-clause-bad : goal.returns-in-Ok-clause-bad
returns-in-Ok-clause-bad c = untold_of_tree IsEvent c.args.bytes.now (tree c.in-Ok.tree) c.event_in.result c.in-Ok.ensures.only c.event_in.ensures.bad
