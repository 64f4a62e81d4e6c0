use Rattle.std.proofs.Common.{◌∙◌, ap, Bool, None, if◌then◌else◌}
use Rattle.bm_lane_actor.specs.ConnectionState.{keeps_link}
use Rattle.bm_lane_actor.proofs.ConnectionStates.{keeps_link_while_up}
use Rattle.bm_lane_actor.proofs.link_keeping.settle.Goals as goal

pub returns-clause-link : goal.returns-clause-link
returns-clause-link g c =
    c.keep.ensures
    ∙ ap (λ (up : Bool). if up then c.args.link.now else None) (ap keeps_link c.connection_of-connection.ensures ∙ keeps_link_while_up c.args.reader.now.trace)
