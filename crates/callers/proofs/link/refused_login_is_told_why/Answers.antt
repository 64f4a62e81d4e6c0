use Rattle.std.specs.Prelude.{codes}
use Rattle.bm_lane.specs.declared.refusals.HearRefusal.TheVariants.{Busy, Session}
use Rattle.bm_link.specs.declared.fault.LinkFault.TheVariants.{Full, Lane}
use Rattle.callers.proofs.LinkCalls.{busy_is_told, full_is_told, tells_login, up_is_told}
use Rattle.callers.proofs.link.refused_login_is_told_why.Goals as goal

pub returns-clause-up : goal.returns-clause-up
returns-clause-up g c why is =
    tells_login g.S.Write.contents (Lane (Session why)) (codes "already up") (up_is_told why)
    c.args.link.now.login c.args.link.now c.args.reader.now c.args.resume_state.now c.attach.result c.attach.new.self c.attach.new.reader c.attach.new.resume_state is c.attach.ensures.up

pub returns-clause-busy : goal.returns-clause-busy
returns-clause-busy g c is =
    tells_login g.S.Write.contents (Lane Busy) (codes "busy") busy_is_told
    c.args.link.now.login c.args.link.now c.args.reader.now c.args.resume_state.now c.attach.result c.attach.new.self c.attach.new.reader c.attach.new.resume_state is c.attach.ensures.up

pub returns-clause-full : goal.returns-clause-full
returns-clause-full g c is =
    tells_login g.S.Write.contents Full (codes "full") full_is_told
    c.args.link.now.login c.args.link.now c.args.reader.now c.args.resume_state.now c.attach.result c.attach.new.self c.attach.new.reader c.attach.new.resume_state is c.attach.ensures.up
