use Rattle.std.proofs.Common.{ap, ◌∙◌, ◌++◌, ◌∷◌, codes, pos, List}
use Rattle.bm_value.specs.Tree.{int, str, dict, TreePair}
use Rattle.bm_value.specs.View.{pairs_of}
use Rattle.bm_msg.specs.Meaning.{asked}
use Rattle.bm_msg.specs.Trees.{at, keys_of}
use Rattle.bm_msg.proofs.writing.request_pairs.Goals as goal

pub returns : goal.returns
returns c =
    ap (λ (ks : List TreePair). dict (pairs_of ks)) (c.in_ok-put_keys.ensures ∙ ap (λ (ks : List TreePair). ks ++ keys_of (asked c.args.message.now.request)) c.in_ok-keys.ensures)
    ∙ ap (λ s. dict (pairs_of (at (codes "seq_number") (int (pos c.args.message.now.seq)) ∷ at (codes "op") (str s) ∷ keys_of (asked c.args.message.now.request)))) c.op_of.ensures
