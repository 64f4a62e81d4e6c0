use Rattle.std.proofs.Common.{◌≡◌, ◌∷◌, []}
use Rattle.bm_work.proofs.Sizes.{update-short}
use Rattle.bm_work.proofs.sent.update.Goals as goal

pub numbered-requires-clause-short : goal.numbered-requires-clause-short
numbered-requires-clause-short c =
    let all : c.push.new.self ≡ c.args.field ∷ [] = cc (c.in_ok-push.ensures.ok, c.new-fields.ensures) in
    rw all (update-short c.args.seq c.args.command c.args.field c.ranges.command.fits c.requires.short)
