-- The map of the numbers that were heard.
use Rattle.std.proofs.Common.{◌≡◌, ℕ, List, [], ◌∷◌, Some, cond, refl, sym, ap, ◌∙◌}
use Rattle.std.specs.Ordering.{nat_cmp, eq_by_cmp}
use Rattle.std.specs.Cmp.{nat_cmp_total, eq_by_cmp_equiv}
use Rattle.std.specs.Map.{lookup}
use Rattle.std.specs.BTreeMap.{BTreeMap, is_at, Updates, get as map_get}
use Rattle.std.specs.FinMap.{find, from_entries, get, insert, get-from_entries, get-insert, same_map, nat_cmp-IsAntisymmetric}

lookup-find : {X : Type 0} (q : ℕ) (es : List (ℕ × X)) → lookup (is_at (nat_cmp q)) es ≡ find nat_cmp q es
lookup-find q [] = refl
lookup-find q (e ∷ es) = ap (cond (eq_by_cmp nat_cmp q e.0) (Some e.1)) (lookup-find q es)

-- what the map has at a key
pub get_by-get : {X : Type 0} (m : BTreeMap ℕ X) (q : ℕ) → map_get nat_cmp m q ≡ get (from_entries {R = nat_cmp} m.entries) q
get_by-get m q = lookup-find q m.entries ∙ sym (get-from_entries nat_cmp_total m.entries q)

-- a map with one more entry
pub insert-is : {X : Type 0} (m n : BTreeMap ℕ X) (k : ℕ) (v : X) → Updates nat_cmp m n k (Some v) → from_entries {R = nat_cmp} n.entries ≡ insert (from_entries {R = nat_cmp} m.entries) k v
insert-is m n k v h =
    same_map nat_cmp_total nat_cmp-IsAntisymmetric (from_entries n.entries) (insert (from_entries m.entries) k v) (λ q.
    sym (get_by-get n q)
    ∙ (h.0 q
    ∙ (ap (λ b. cond b (Some v) (map_get nat_cmp m q)) ((eq_by_cmp_equiv nat_cmp_total).symm k q)
    ∙ (ap (cond (eq_by_cmp nat_cmp q k) (Some v)) (get_by-get m q) ∙ sym (get-insert nat_cmp_total (from_entries m.entries) k v q)))))
