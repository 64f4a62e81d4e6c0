-- Lists of parts, by name.
use Rattle.std.proofs.Common.{◌≡◌, refl, sym, ◌∙◌, ap, ℕ, zero, suc, ◌+◌, ◌≤◌, ◌<◌, Bool, true, false, cond, not, ◌&&◌, ◌||◌, List, [], ◌∷◌, ◌++◌, length, get_or, set, Some, None, Result, Ok, Err, arith}
use Rattle.std.specs.Prelude.{bytes_eq, find, filter, map, OnOk, OnErr}
use Rattle.std.specs.Option.{option_map, option_to_list}
use Rattle.std.specs.List.{position_or_len, list_any}
use Rattle.std.proofs.lemmas.Slice.Eq.{bytes_eq-Decides}
use Rattle.bm_lines.specs.Names.{Name}
use Rattle.bm_lines.specs.Lines.{Line}
use Rattle.bm_lines.specs.declared.line_batch.LogLines.{LogLines}
use Rattle.bm_lines.specs.LineBatches.{are_distinct, block_under, blocks_under, with_item}

pub same_name : (a b : Name) → bytes_eq a b ≡ true → a ≡ b
same_name a b h = (bytes_eq-Decides a b).0 h

pub equal_name : (a : Name) → bytes_eq a a ≡ true
equal_name a = (bytes_eq-Decides a a).1 refl

other_name : (a b : Name) → bytes_eq a b ≡ false → bytes_eq b a ≡ false
other_name a b h = go (bytes_eq b a) refl
  where
    go : (c : Bool) → bytes_eq b a ≡ c → c ≡ false
    go true e = let swapped : bytes_eq a b ≡ true = ap (λ x. bytes_eq x b) (sym (same_name b a e)) ∙ equal_name b in cc
    go false e = refl

abbrev is_named : Name → LogLines → Bool
is_named name p = bytes_eq p.name name

-- ---- a part at its place

pub block_under-at : (ps : List LogLines) (name : Name) (i : ℕ) (p : LogLines) → i ≡ position_or_len (λ q. bytes_eq q.name name) ps → i < length ps
    → p ≡ get_or ps i p → block_under name ps ≡ Some p.block
block_under-at [] name i p at inside is = absurd (omega arith)
block_under-at (x ∷ xs) name i p at inside is = go (bytes_eq x.name name) i at inside is (λ j a l e. block_under-at xs name j p a l e)
  where
    go : (b : Bool) (i : ℕ) → i ≡ cond (not b) (1 + position_or_len (λ q. bytes_eq q.name name) xs) 0 → i < length (x ∷ xs) → p ≡ get_or (x ∷ xs) i p
        → ((j : ℕ) → j ≡ position_or_len (λ q. bytes_eq q.name name) xs → j < length xs → p ≡ get_or xs j p → block_under name xs ≡ Some p.block)
        → option_map (λ (q : LogLines). q.block) (cond b (Some x) (find (λ q. bytes_eq q.name name) xs)) ≡ Some p.block
    go true zero at inside is ih = ap (λ (q : LogLines). Some q.block) (sym is)
    go true (suc i) at inside is ih = absurd (omega arith)
    go false zero at inside is ih = absurd (omega arith)
    go false (suc i) at inside is ih = ih i (omega arith) (omega arith) is

pub block_under-past : (ps : List LogLines) (name : Name) → length ps ≤ position_or_len (λ q. bytes_eq q.name name) ps → block_under name ps ≡ None
block_under-past [] name past = refl
block_under-past (x ∷ xs) name past = go (bytes_eq x.name name) past (block_under-past xs name)
  where
    go : (b : Bool) → length (x ∷ xs) ≤ cond (not b) (1 + position_or_len (λ q. bytes_eq q.name name) xs) 0
        → (length xs ≤ position_or_len (λ q. bytes_eq q.name name) xs → block_under name xs ≡ None)
        → option_map (λ (q : LogLines). q.block) (cond b (Some x) (find (λ q. bytes_eq q.name name) xs)) ≡ None
    go true past ih = absurd (omega arith)
    go false past ih = ih (omega arith)

-- ---- one item more

pub with_item-at : (ps : List LogLines) (name : Name) (more : List Line) (i : ℕ) (p new : LogLines) → i ≡ position_or_len (λ q. bytes_eq q.name name) ps → i < length ps
    → p ≡ get_or ps i p → new.name ≡ p.name → new.block ≡ p.block ++ more → set ps i new ≡ with_item name more ps
with_item-at [] name more i p new at inside is named grown = absurd (omega arith)
with_item-at (x ∷ xs) name more i p new at inside is named grown = go (bytes_eq x.name name) i at inside is (λ j a l e. with_item-at xs name more j p new a l e named grown)
  where
    go : (b : Bool) (i : ℕ) → i ≡ cond (not b) (1 + position_or_len (λ q. bytes_eq q.name name) xs) 0 → i < length (x ∷ xs) → p ≡ get_or (x ∷ xs) i p
        → ((j : ℕ) → j ≡ position_or_len (λ q. bytes_eq q.name name) xs → j < length xs → p ≡ get_or xs j p → set xs j new ≡ with_item name more xs)
        → set (x ∷ xs) i new ≡ cond b (record { name = x.name; block = x.block ++ more } ∷ xs) (x ∷ with_item name more xs)
    go true zero at inside is ih =
        let at_name : new.name ≡ x.name = named ∙ ap (λ (q : LogLines). q.name) is in
        let at_block : new.block ≡ x.block ++ more = grown ∙ ap (λ (q : LogLines). q.block ++ more) is in
        ap (λ n. record { name = n; block = new.block } ∷ xs) at_name ∙ ap (λ b. record { name = x.name; block = b } ∷ xs) at_block
    go true (suc i) at inside is ih = absurd (omega arith)
    go false zero at inside is ih = absurd (omega arith)
    go false (suc i) at inside is ih = ap (λ qs. x ∷ qs) (ih i (omega arith) (omega arith) is)

pub with_item-past : (ps : List LogLines) (name : Name) (lines : List Line) → length ps ≤ position_or_len (λ q. bytes_eq q.name name) ps
    → ps ++ record { name = name; block = lines } ∷ [] ≡ with_item name lines ps
with_item-past [] name lines past = refl
with_item-past (x ∷ xs) name lines past = go (bytes_eq x.name name) past (with_item-past xs name lines)
  where
    go : (b : Bool) → length (x ∷ xs) ≤ cond (not b) (1 + position_or_len (λ q. bytes_eq q.name name) xs) 0
        → (length xs ≤ position_or_len (λ q. bytes_eq q.name name) xs → xs ++ record { name = name; block = lines } ∷ [] ≡ with_item name lines xs)
        → (x ∷ xs) ++ record { name = name; block = lines } ∷ [] ≡ cond b (record { name = x.name; block = x.block ++ lines } ∷ xs) (x ∷ with_item name lines xs)
    go true past ih = absurd (omega arith)
    go false past ih = ap (λ qs. x ∷ qs) (ih (omega arith))

-- ---- names stay distinct

any_named-with_item : (ps : List LogLines) (name other : Name) (lines : List Line) → bytes_eq name other ≡ false
    → list_any (λ (q : LogLines). bytes_eq q.name other) (with_item name lines ps) ≡ list_any (λ (q : LogLines). bytes_eq q.name other) ps
any_named-with_item [] name other lines apart = ap (λ b. b || false) apart
any_named-with_item (x ∷ xs) name other lines apart = go (bytes_eq x.name name) (any_named-with_item xs name other lines apart)
  where
    go : (b : Bool) → list_any (λ (q : LogLines). bytes_eq q.name other) (with_item name lines xs) ≡ list_any (λ (q : LogLines). bytes_eq q.name other) xs
        → list_any (λ (q : LogLines). bytes_eq q.name other) (cond b (record { name = x.name; block = x.block ++ lines } ∷ xs) (x ∷ with_item name lines xs)) ≡ list_any (λ (q : LogLines). bytes_eq q.name other) (x ∷ xs)
    go true ih = refl
    go false ih = ap (λ c. bytes_eq x.name other || c) ih

and_parts : (a b : Bool) → (a && b) ≡ true → (a ≡ true) × (b ≡ true)
and_parts true true h = (refl, refl)
and_parts true false h = (refl, h)
and_parts false b h = (h, absurd cc)

pub are_distinct-with_item : (ps : List LogLines) (name : Name) (lines : List Line) → are_distinct ps ≡ true → are_distinct (with_item name lines ps) ≡ true
are_distinct-with_item [] name lines h = refl
are_distinct-with_item (x ∷ xs) name lines h = go (bytes_eq x.name name) refl h (are_distinct-with_item xs name lines)
  where
    go : (b : Bool) → bytes_eq x.name name ≡ b → are_distinct (x ∷ xs) ≡ true → (are_distinct xs ≡ true → are_distinct (with_item name lines xs) ≡ true)
        → are_distinct (cond b (record { name = x.name; block = x.block ++ lines } ∷ xs) (x ∷ with_item name lines xs)) ≡ true
    go true e h ih = h
    go false e h ih =
        let both = and_parts _ _ h in
        ap (λ c. not c && are_distinct (with_item name lines xs)) (any_named-with_item xs name x.name lines (other_name x.name name e))
        ∙ ap (λ c. c && are_distinct (with_item name lines xs)) both.0 ∙ ih both.1

-- ---- a call that adds an item or changes nothing

pub are_distinct-kept : {T E : Type 0} (r : Result T E) (new old : List LogLines) (name : Name) (lines : List Line) → OnOk r (new ≡ with_item name lines old) → OnErr r (new ≡ old)
    → are_distinct old ≡ true → are_distinct new ≡ true
are_distinct-kept (Ok x) new old name lines ok err h = ap are_distinct ok ∙ are_distinct-with_item old name lines h
are_distinct-kept (Err e) new old name lines ok err h = ap are_distinct err ∙ h

pub set_on_ok : {T E : Type 0} (r : Result T E) (ps : List LogLines) (name : Name) (lines : List Line) (i : ℕ) (p : LogLines) (block : List Line) → i ≡ position_or_len (λ q. bytes_eq q.name name) ps → i < length ps
    → p ≡ get_or ps i p → OnOk r (block ≡ p.block ++ lines) → OnOk r (set ps i (record { name = p.name; block = block }) ≡ with_item name lines ps)
set_on_ok (Ok x) ps name lines i p block at inside is grown = with_item-at ps name lines i p (record { name = p.name; block = block }) at inside is refl grown
set_on_ok (Err e) ps name lines i p block at inside is grown = tt

-- ---- distinct names

from_not : (b : Bool) → not b ≡ true → b ≡ false
from_not true g = absurd cc
from_not false g = refl

none_named : (ps : List LogLines) (name : Name) → list_any (λ (q : LogLines). bytes_eq q.name name) ps ≡ false → blocks_under name ps ≡ []
none_named [] name h = refl
none_named (x ∷ xs) name h = go (bytes_eq x.name name) h (none_named xs name)
  where
    go : (b : Bool) → (b || list_any (λ (q : LogLines). bytes_eq q.name name) xs) ≡ false → (list_any (λ (q : LogLines). bytes_eq q.name name) xs ≡ false → blocks_under name xs ≡ [])
        → map (λ (q : LogLines). q.block) (cond b (x ∷ filter (λ (q : LogLines). bytes_eq q.name name) xs) (filter (λ (q : LogLines). bytes_eq q.name name) xs)) ≡ []
    go true h ih = absurd cc
    go false h ih = ih h

-- a name has one block at most
pub blocks_under-distinct : (ps : List LogLines) (name : Name) → are_distinct ps ≡ true → blocks_under name ps ≡ option_to_list (block_under name ps)
blocks_under-distinct [] name h = refl
blocks_under-distinct (x ∷ xs) name h = go (bytes_eq x.name name) refl (blocks_under-distinct xs name (and_parts _ _ h).1)
  where
    go : (b : Bool) → bytes_eq x.name name ≡ b → blocks_under name xs ≡ option_to_list (block_under name xs)
        → map (λ (q : LogLines). q.block) (cond b (x ∷ filter (λ (q : LogLines). bytes_eq q.name name) xs) (filter (λ (q : LogLines). bytes_eq q.name name) xs))
        ≡ option_to_list (option_map (λ (q : LogLines). q.block) (cond b (Some x) (find (λ q. bytes_eq q.name name) xs)))
    go true e ih =
        let alone : list_any (λ (q : LogLines). bytes_eq q.name name) xs ≡ false = ap (λ n. list_any (λ (q : LogLines). bytes_eq q.name n) xs) (sym (same_name x.name name e)) ∙ from_not _ (and_parts _ _ h).0 in
        ap (λ bs. x.block ∷ bs) (none_named xs name alone)
    go false e ih = ih
