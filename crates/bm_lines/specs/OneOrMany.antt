-- A list that is kept as one item or as many.
use Rattle.std.specs.Prelude.{List, [], ◌∷◌}
use Rattle.bm_lines.specs.declared.one_or_many.OneOrMany.{OneOrMany}
use Rattle.bm_lines.specs.declared.one_or_many.OneOrMany.TheVariants.{One, Many}

abbrev pub items_of : {T : Type 0} → OneOrMany T → List T
items_of (One x) = x ∷ []
items_of (Many xs) = xs.items
