use Rattle.std.proofs.Common.{rules, ◌≤◌, length, min}
use Rattle.bm_link.proofs.Sames.{is_seen_whole}
use Rattle.bm_link.proofs.user.are_same.Goals as goal

pub returns : goal.returns
returns c =
    let all : min (length c.args.left.now) (length c.args.right.now) ≤ c.bytes.place = search rules in
    is_seen_whole c.bytes.same c.args.left.now c.args.right.now c.bytes.place c.bytes.invariant all
