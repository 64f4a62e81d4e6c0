use Rattle.std.proofs.Common.{◌∙◌, refl, sym}
use Rattle.bm_link.specs.declared.ending.Stage.TheVariants as stage
use Rattle.bm_link.proofs.Stages.{declines_up, takes_up}
use Rattle.bm_link.proofs.master.MasterLink.attach.Goals as goal

pub returns-in-Ok-clause-up : goal.returns-in-Ok-clause-up
returns-in-Ok-clause-up g c =
    rw (← c.self.view_is) (
    takes_up g.S.Write.contents c.in-Some.login
    (record { socket = c.self.inside.socket; stage = c.self.inside.stage; login = c.self.inside.login; kept = c.self.inside.kept; refused = c.self.inside.refused })
    c.args.reader.now c.args.resume_state.now c.in-Ok.attached
    (record { socket = c.take_up.new.socket; stage = stage.Up; login = c.take.new.self; kept = c.self.inside.kept; refused = c.self.inside.refused })
    c.take_up.new.reader c.take_up.new.resume_state
    (sym c.take.ensures.value ∙ c.in-Some.is) c.in-Ok.ensures refl c.take.ensures.after
    )

pub returns-in-Err-clause-up : goal.returns-in-Err-clause-up
returns-in-Err-clause-up g c =
    rw (← c.self.view_is) (
    declines_up g.S.Write.contents c.in-Some.login
    (record { socket = c.self.inside.socket; stage = c.self.inside.stage; login = c.self.inside.login; kept = c.self.inside.kept; refused = c.self.inside.refused })
    c.args.reader.now c.args.resume_state.now c.in-Err.fault
    (record { socket = c.take_up.new.socket; stage = c.in-Err.stage; login = c.take.new.self; kept = c.self.inside.kept; refused = c.self.inside.refused })
    c.take_up.new.reader c.take_up.new.resume_state
    (sym c.take.ensures.value ∙ c.in-Some.is) c.in-Err.ensures c.take.ensures.after
    )
