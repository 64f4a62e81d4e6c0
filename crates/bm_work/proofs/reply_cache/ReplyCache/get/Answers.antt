use Rattle.std.proofs.Common.{ap, ◌∙◌}
use Rattle.std.specs.FinMap.{get}
use Rattle.bm_work.proofs.AnswerMaps.{get_by-get}
use Rattle.bm_work.proofs.reply_cache.ReplyCache.get.Goals as goal

pub returns : goal.returns
returns c =
    c.copied.ensures
    ∙ (c.get.ensures.value ∙ (get_by-get c.self.inside.map c.args.number ∙ ap (λ m. get m c.args.number) c.self.view_is))
