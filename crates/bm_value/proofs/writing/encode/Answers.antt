use Rattle.std.proofs.Common.{◌≤◌, rules}
use Rattle.bm_value.specs.Limits.{IsShort}
use Rattle.bm_value.specs.Tree.{depth}
use Rattle.bm_value.specs.View.{tree}
use Rattle.bm_value.proofs.ReadBack.{read_back}
use Rattle.bm_value.proofs.writing.encode.Goals as goal

pub returns-clause-back : goal.returns-clause-back
returns-clause-back g c =
    let nests : depth (tree c.args.value.now) ≤ 32 = search rules in
    let short : IsShort (tree c.args.value.now) = search rules in
    read_back (tree c.args.value.now) c.in_ok-put_whole.ensures.formed short nests
