use Rattle.std.proofs.Common.{ap, ◌∙◌}
use Rattle.std.specs.FinMap.{insert}
use Rattle.bm_work.proofs.AnswerMaps.{insert-is}
use Rattle.bm_work.proofs.reply_cache.ReplyCache.insert.Goals as goal

pub returns-clause-ok : goal.returns-clause-ok
returns-clause-ok c =
    insert-is c.self.inside.map c.insert.new.self c.args.number c.args.answer c.in_ok-insert.ensures.updates
    ∙ ap (λ m. insert m c.args.number c.args.answer) c.self.view_is
