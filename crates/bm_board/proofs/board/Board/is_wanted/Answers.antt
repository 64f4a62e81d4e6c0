use Rattle.std.proofs.Common.{◌∙◌, ap}
use Rattle.bm_board.specs.ScheduledBuild.{waits_for}
use Rattle.bm_board.specs.Board.{is_wanted}
use Rattle.bm_board.proofs.Waiting.{any_counted}
use Rattle.bm_board.proofs.board.Board.is_wanted.Goals as goal

pub returns : goal.returns
returns c =
    any_counted (waits_for c.args.worker) c.self.inside.jobs.items c.waiting.result (c.waiting.ensures ∙ c.self.invariant.waiting.waits c.args.worker)
    ∙ ap (λ b. is_wanted b c.args.worker) c.self.view_is
