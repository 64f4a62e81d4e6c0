-- What is written is read back.
use Rattle.std.proofs.Common.{◌≤◌, length, refl, sym, subst, arith}
use Rattle.std.proofs.lemmas.List.{take_at, length-append}
use Rattle.bm_value.specs.Tree.{Tree, depth}
use Rattle.bm_value.specs.Spelling.{Spells}
use Rattle.bm_value.specs.Limits.{IsShort, IsWellFormed}
use Rattle.bm_value.specs.Writing.{written}
use Rattle.bm_value.specs.Decoding.{IsReadBack}
use Rattle.bm_value.proofs.Spelled.{spelled}

pub read_back : (t : Tree) → IsWellFormed t → IsShort t → depth t ≤ 32 → IsReadBack t
read_back t formed short nests = λ rest. record {
  within = omega (arith, length-append (written t) rest);
  spelled = subst (λ x. Spells x t) (sym (take_at (written t) rest (length (written t)) refl)) (spelled t formed short);
  nests = nests;
}
