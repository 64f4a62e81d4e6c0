-- What a worker sends is flat and short.
use Rattle.std.proofs.Common.{ℕ, ◌<◌, ◌≤◌, ◌^◌, List, [], ◌∷◌, length, Option, Some, None, false, lit<, lit≤, arith}
use Rattle.std.specs.Fmt.{decimal}
use Rattle.std.proofs.lemmas.Fmt.{length-decimal-le}
use Rattle.bm_value.specs.Tree.{depth}
use Rattle.bm_value.specs.Limits.{IsShort}
use Rattle.bm_msg.specs.declared.field.Field.{Field}
use Rattle.bm_msg.specs.declared.field.Field.TheVariants.{Text, Named, Rc}
use Rattle.bm_msg.specs.Meaning.{update, complete, request, response}
use Rattle.bm_msg.specs.Trees.{tree_of, item_of, fault_tree}
use Rattle.bm_work.specs.WorkerAnswers.{info}

decimal-short : (k : ℕ) → k < 2 ^ 64 → length (decimal k) < 2 ^ 32
decimal-short k h = let few : length (decimal k) ≤ 20 = length-decimal-le 20 k (lit< tt) (omega arith) h in omega arith

pub update-flat : (n k : ℕ) (f : Field) → depth (tree_of (request n (update k (f ∷ [])))) ≤ 32
update-flat n k (Text letter t) = lit≤ tt
update-flat n k (Named name t) = lit≤ tt
update-flat n k (Rc z) = lit≤ tt

pub update-short : (n k : ℕ) (f : Field) → k < 2 ^ 64 → IsShort (item_of f) → IsShort (tree_of (request n (update k (f ∷ []))))
update-short n k f h short =
    (lit< tt, (lit< tt, tt, (lit< tt, lit< tt, (lit< tt, decimal-short k h, (lit< tt, (lit< tt, (short, tt)), tt)))))

pub complete-flat : (n k : ℕ) (fault : Option (List ℕ)) → depth (tree_of (request n (complete k fault))) ≤ 32
complete-flat n k None = lit≤ tt
complete-flat n k (Some f) = lit≤ tt

pub complete-short : (n k : ℕ) (fault : Option (List ℕ)) → k < 2 ^ 64 → IsShort (fault_tree fault) → IsShort (tree_of (request n (complete k fault)))
complete-short n k fault h short =
    (lit< tt, (lit< tt, tt, (lit< tt, lit< tt, (lit< tt, decimal-short k h, (lit< tt, short, tt)))))

pub told-flat : (n : ℕ) → depth (tree_of (response n info false)) ≤ 32
told-flat n = lit≤ tt

pub told-short : (n : ℕ) → IsShort (tree_of (response n info false))
told-short n = (lit< tt, (lit< tt, tt, (lit< tt, lit< tt, (lit< tt, (lit< tt, (lit< tt, lit< tt, tt)), tt))))

pub ruleset sizes = (update-flat, update-short, complete-flat, complete-short, told-flat, told-short)
