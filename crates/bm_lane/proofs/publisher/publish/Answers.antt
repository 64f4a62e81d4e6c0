use Rattle.bm_lane.proofs.Chains.{publishes, publish_leaves}
use Rattle.bm_lane.proofs.publisher.publish.Goals as goal

pub publish_as-requires : goal.publish_as-requires
publish_as-requires g c next is = publishes _ _ c.args.copy.desk.shown.value next _ c.requires.0 c.requires.1 is

pub returns : goal.returns
returns g c = publish_leaves _ _ _ c.args.copy.desk.shown.value _ _ _ c.requires.0 c.requires.1 c.publish_as.ensures.values c.publish_as.ensures.rule
