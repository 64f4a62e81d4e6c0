use Rattle.bm_lane.proofs.Kept.{portion_is_kept}
use Rattle.bm_lane.proofs.questions.PortionOfQuestion.ask.Goals as goal

pub returns : goal.returns
returns c =
    let asked = c.args.self.now in
    let lines = asked.lines in
    portion_is_kept c.args.seen.now.book c.args.seen.now.front.log lines.command lines.name.now lines.offset lines.limit asked.skip asked.most c.portion.result c.requires c.portion.ensures
