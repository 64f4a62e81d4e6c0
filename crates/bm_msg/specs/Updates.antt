-- Updates of one text.
use Rattle.std.specs.Prelude.{◌≡◌, ℕ, List, [], ◌∷◌, codes, Some}
use Rattle.bm_lines.specs.declared.letter.Letter.{Letter}
use Rattle.bm_value.specs.Field.{field}
use Rattle.bm_value.specs.Tree.{Tree, array, none, item}
use Rattle.bm_msg.specs.declared.field.Field.TheVariants.{Text}
use Rattle.bm_msg.specs.declared.text_update.TextUpdate.{TextUpdate}
use Rattle.bm_msg.specs.Items.{item_fields}
use Rattle.bm_msg.specs.Meaning.{Meaning, request, update}
use Rattle.bm_msg.specs.Messages.{HasNumber, HasOp, HasCommand}

-- the message that it is
abbrev pub says : TextUpdate → Meaning
says u = request u.seq (update u.command (Text u.letter u.text.now ∷ []))

-- the tree is an update whose only item is a text
pub record IsTextUpdate (t : Tree) : Type 0 where
  pub number : ℕ
  pub command : ℕ
  pub letter : Letter
  pub text : List ℕ
  pub only : Tree
  pub numbered : HasNumber t number
  pub asked : HasOp t (codes "update")
  pub ordered : HasCommand t command
  pub args : field t (codes "args") ≡ Some (array (item only none))
  pub carries : item_fields only ≡ Some (Text letter text ∷ [])
