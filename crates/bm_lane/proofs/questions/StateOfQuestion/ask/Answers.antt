use Rattle.std.proofs.Common.{sym, ap, ◌∙◌}
use Rattle.bm_lane.specs.Answers.{told}
use Rattle.bm_lane.proofs.Kept.{state_is_kept}
use Rattle.bm_lane.proofs.questions.StateOfQuestion.ask.Goals as goal

pub returns-in-Some : goal.returns-in-Some
returns-in-Some c = let log = c.args.self.now in ap told (sym c.in-Some.is ∙ c.state.ensures ∙ state_is_kept c.args.seen.now.book c.args.seen.now.front.log log.command log.name.now c.requires)

pub returns-in-None : goal.returns-in-None
returns-in-None c = let log = c.args.self.now in ap told (sym c.in-None.is ∙ c.state.ensures ∙ state_is_kept c.args.seen.now.book c.args.seen.now.front.log log.command log.name.now c.requires)
