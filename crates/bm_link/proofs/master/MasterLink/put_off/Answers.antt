use Rattle.std.proofs.Common.{◌∙◌, refl, sym}
use Rattle.bm_link.specs.declared.ending.Stage.TheVariants as stage
use Rattle.bm_link.proofs.Declined.{puts_off}
use Rattle.bm_link.proofs.master.MasterLink.put_off.Goals as goal

pub returns-clause-put_off : goal.returns-clause-put_off
returns-clause-put_off g c =
    rw (← c.self.view_is) (
    puts_off g.S.Write.contents c.in-Some.login
    (record { socket = c.self.inside.socket; stage = c.self.inside.stage; login = c.self.inside.login; kept = c.self.inside.kept; refused = c.self.inside.refused })
    c.refuse.result
    (record { socket = c.refuse.new.socket; stage = stage.Failed; login = c.take.new.self; kept = c.self.inside.kept; refused = c.self.inside.refused })
    (sym c.take.ensures.value ∙ c.in-Some.is) c.refuse.ensures.fault refl c.take.ensures.after c.refuse.ensures.told
    )
