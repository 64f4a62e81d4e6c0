use Rattle.bm_lane.proofs.Kept.{lines_are_kept}
use Rattle.bm_lane.proofs.questions.LinesOfQuestion.ask.Goals as goal

pub returns : goal.returns
returns c =
    let asked = c.args.self.now in
    lines_are_kept c.args.seen.now.book c.args.seen.now.front.log asked.command asked.name.now asked.offset asked.limit c.slice.result c.requires c.slice.ensures
