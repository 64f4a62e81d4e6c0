use Rattle.std.proofs.Common.{◌∙◌, sym, ap}
use Rattle.bm_link.specs.Link.{LinkState}
use Rattle.bm_link.proofs.Stages.{turn_fails}
use Rattle.bm_link.proofs.master.MasterLink.turn.Goals as goal

-- the link failed, and its lane ended
pub returns-in-Err-clause-turned : goal.returns-in-Err-clause-turned
returns-in-Err-clause-turned g c =
    turn_fails g.S.Read.remaining g.S.Write.contents c.args.self.now c.args.reader.now c.args.resume_state.now c.in-Err.fault c.hear_next.new.self c.end.new.self
    c.hear_next.new.reader c.end.new.reader c.hear_next.new.resume_state c.may_cut.result c.end.result
    (sym (ap (λ (l : LinkState g.row.S.Denot). l.stage) c.self.view_is) ∙ c.in-Up.is)
    c.in-Err.ensures.next.0 c.end.ensures.rest.0 c.may_cut.ensures c.end.ensures.ended c.end.ensures.stage c.end.ensures.kept
