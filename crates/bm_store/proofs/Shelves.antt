-- The logs of one command as a list, and as a map from names.
use Rattle.std.proofs.Common.{◌≡◌, refl, sym, ◌∙◌, ap, ℕ, zero, suc, ◌+◌, ◌-◌, ◌≤◌, ◌<◌, Bool, true, false, cond, not, ◌&&◌, List, [], ◌∷◌, ◌++◌, length, take, Some, arith, set, get_or, append_assoc, length-append}
use Rattle.std.specs.Prelude.{bytes_eq, slice_get, remove, nat_le, map, filter}
use Rattle.std.specs.Prelude.{Result, Ok, Err, OnOk, OnErr}
use Rattle.std.specs.List.{position_or_len}
use Rattle.std.proofs.Math.Seq.{take-suc}
use Rattle.std.proofs.lemmas.List.{append-nil}
use Rattle.std.proofs.lemmas.List.Sums.{fold-append}
use Rattle.std.proofs.lemmas.Slice.Eq.{bytes_eq-Decides}
use Rattle.std.proofs.lemmas.Bool.Decides.{nat_tests}
use Rattle.bm_lines.specs.Names.{Name}
use Rattle.bm_lines.specs.LineBatches.{blocks_under}
use Rattle.bm_lines.specs.Lines.{Line}
use Rattle.bm_lines.specs.declared.line_batch.LogLines.{LogLines}
use Rattle.bm_session.proofs.Taken.{and-left, and-right}
use Rattle.bm_store.specs.Kept.{Named, blocks_of, with_block, with_parts, without_block, have_blocks}

pub same-name : (a b : Name) → bytes_eq a b ≡ true → a ≡ b
same-name a b h = (bytes_eq-Decides a b).0 h

pub equal-name : (a : Name) → bytes_eq a a ≡ true
equal-name a = (bytes_eq-Decides a a).1 refl

abbrev pub is_named : Name → Named → Bool
is_named name l = bytes_eq l.name name

-- a block more, written at its place
pub with_block-set : (ls : List Named) (name : Name) (block : List Line) (i : ℕ) (new : Named) → i ≡ position_or_len (is_named name) ls → i < length ls
    → ((old : Named) → slice_get ls i ≡ Some old → new ≡ record { name = old.name; blocks = old.blocks ++ block ∷ [] }) → set ls i new ≡ with_block name block ls
with_block-set [] name block i new p l h = absurd (omega arith)
with_block-set (x ∷ xs) name block i new p l h = go (bytes_eq x.name name) i p l h (λ j q m g. with_block-set xs name block j new q m g)
  where
    go : (b : Bool) (i : ℕ) → i ≡ cond (not b) (1 + position_or_len (is_named name) xs) 0 → i < length (x ∷ xs)
        → ((old : Named) → slice_get (x ∷ xs) i ≡ Some old → new ≡ record { name = old.name; blocks = old.blocks ++ block ∷ [] })
        → ((j : ℕ) → j ≡ position_or_len (is_named name) xs → j < length xs → ((old : Named) → slice_get xs j ≡ Some old → new ≡ record { name = old.name; blocks = old.blocks ++ block ∷ [] }) → set xs j new ≡ with_block name block xs)
        → set (x ∷ xs) i new ≡ cond b ((record { name = x.name; blocks = x.blocks ++ block ∷ [] }) ∷ xs) (x ∷ with_block name block xs)
    go true zero p l h ih = ap (λ n. n ∷ xs) (h x refl)
    go true (suc i) p l h ih = absurd (omega arith)
    go false zero p l h ih = absurd (omega arith)
    go false (suc i) p l h ih = ap (λ ls. x ∷ ls) (ih i (omega arith) (omega arith) h)

-- a block more under a new name
pub with_block-new : (ls : List Named) (name : Name) (block : List Line) → length ls ≤ position_or_len (is_named name) ls → with_block name block ls ≡ ls ++ record { name = name; blocks = block ∷ [] } ∷ []
with_block-new [] name block p = refl
with_block-new (x ∷ xs) name block p = go (bytes_eq x.name name) p (λ q. with_block-new xs name block q)
  where
    go : (b : Bool) → length (x ∷ xs) ≤ cond (not b) (1 + position_or_len (is_named name) xs) 0
        → (length xs ≤ position_or_len (is_named name) xs → with_block name block xs ≡ xs ++ (record { name = name; blocks = block ∷ [] }) ∷ [])
        → cond b ((record { name = x.name; blocks = x.blocks ++ block ∷ [] }) ∷ xs) (x ∷ with_block name block xs) ≡ x ∷ (xs ++ (record { name = name; blocks = block ∷ [] }) ∷ [])
    go true p ih = absurd (omega arith)
    go false p ih = ap (λ ls. x ∷ ls) (ih (omega arith))

-- a block less, written at its place
pub without_block-set : (ls : List Named) (name : Name) (i : ℕ) (new : Named) → i ≡ position_or_len (is_named name) ls → i < length ls
    → ((old : Named) → slice_get ls i ≡ Some old → (1 < length old.blocks) × (new ≡ record { name = old.name; blocks = take (length old.blocks - 1) old.blocks })) → set ls i new ≡ without_block name ls
without_block-set [] name i new p l h = absurd (omega arith)
without_block-set (x ∷ xs) name i new p l h = go (bytes_eq x.name name) i p l h (λ j q m g. without_block-set xs name j new q m g)
  where
    go : (b : Bool) (i : ℕ) → i ≡ cond (not b) (1 + position_or_len (is_named name) xs) 0 → i < length (x ∷ xs)
        → ((old : Named) → slice_get (x ∷ xs) i ≡ Some old → (1 < length old.blocks) × (new ≡ record { name = old.name; blocks = take (length old.blocks - 1) old.blocks }))
        → ((j : ℕ) → j ≡ position_or_len (is_named name) xs → j < length xs → ((old : Named) → slice_get xs j ≡ Some old → (1 < length old.blocks) × (new ≡ record { name = old.name; blocks = take (length old.blocks - 1) old.blocks })) → set xs j new ≡ without_block name xs)
        → set (x ∷ xs) i new ≡ cond b (cond (nat_le (length x.blocks) 1) xs ((record { name = x.name; blocks = take (length x.blocks - 1) x.blocks }) ∷ xs)) (x ∷ without_block name xs)
    go true zero p l h ih =
        let at : (1 < length x.blocks) × (new ≡ record { name = x.name; blocks = take (length x.blocks - 1) x.blocks }) = h x refl in
        let more : 1 < length x.blocks = at.0 in
        let several : nat_le (length x.blocks) 1 ≡ false = grind (arith, nat_tests) in
        ap (λ n. n ∷ xs) at.1 ∙ sym (ap (λ b. cond b xs ((record { name = x.name; blocks = take (length x.blocks - 1) x.blocks }) ∷ xs)) several)
    go true (suc i) p l h ih = absurd (omega arith)
    go false zero p l h ih = absurd (omega arith)
    go false (suc i) p l h ih = ap (λ ls. x ∷ ls) (ih i (omega arith) (omega arith) h)

-- the log with its only block
pub without_block-remove : (ls : List Named) (name : Name) (i : ℕ) → i ≡ position_or_len (is_named name) ls → i < length ls
    → ((old : Named) → slice_get ls i ≡ Some old → length old.blocks ≤ 1) → remove ls i ≡ without_block name ls
without_block-remove [] name i p l h = absurd (omega arith)
without_block-remove (x ∷ xs) name i p l h = go (bytes_eq x.name name) i p l h (λ j q m g. without_block-remove xs name j q m g)
  where
    go : (b : Bool) (i : ℕ) → i ≡ cond (not b) (1 + position_or_len (is_named name) xs) 0 → i < length (x ∷ xs)
        → ((old : Named) → slice_get (x ∷ xs) i ≡ Some old → length old.blocks ≤ 1)
        → ((j : ℕ) → j ≡ position_or_len (is_named name) xs → j < length xs → ((old : Named) → slice_get xs j ≡ Some old → length old.blocks ≤ 1) → remove xs j ≡ without_block name xs)
        → remove (x ∷ xs) i ≡ cond b (cond (nat_le (length x.blocks) 1) xs ((record { name = x.name; blocks = take (length x.blocks - 1) x.blocks }) ∷ xs)) (x ∷ without_block name xs)
    go true zero p l h ih =
        let few : length x.blocks ≤ 1 = h x refl in
        let one : nat_le (length x.blocks) 1 ≡ true = grind (arith, nat_tests) in
        sym (ap (λ b. cond b xs ((record { name = x.name; blocks = take (length x.blocks - 1) x.blocks }) ∷ xs)) one)
    go true (suc i) p l h ih = absurd (omega arith)
    go false zero p l h ih = absurd (omega arith)
    go false (suc i) p l h ih = ap (λ ls. x ∷ ls) (ih i (omega arith) (omega arith) h)

pub without_block-none : (ls : List Named) (name : Name) → length ls ≤ position_or_len (is_named name) ls → ls ≡ without_block name ls
without_block-none [] name p = refl
without_block-none (x ∷ xs) name p = go (bytes_eq x.name name) p (λ q. without_block-none xs name q)
  where
    go : (b : Bool) → length (x ∷ xs) ≤ cond (not b) (1 + position_or_len (is_named name) xs) 0 → (length xs ≤ position_or_len (is_named name) xs → xs ≡ without_block name xs)
        → x ∷ xs ≡ cond b (cond (nat_le (length x.blocks) 1) xs ((record { name = x.name; blocks = take (length x.blocks - 1) x.blocks }) ∷ xs)) (x ∷ without_block name xs)
    go true p ih = absurd (omega arith)
    go false p ih = ap (λ ls. x ∷ ls) (ih (omega arith))

pub some-block : (n : ℕ) → nat_le 1 n ≡ true → 1 ≤ n
some-block n h = grind (arith, nat_tests)

-- a block that was added is taken back
pub without-with : (ls : List Named) (name : Name) (block : List Line) → have_blocks ls ≡ true → without_block name (with_block name block ls) ≡ ls
without-with [] name block h = ap (λ b. cond b [] ((record { name = name; blocks = block ∷ [] }) ∷ [])) (equal-name name)
without-with (x ∷ xs) name block h = go (bytes_eq x.name name) refl (without-with xs name block (and-right _ _ h))
  where
    go : (b : Bool) → bytes_eq x.name name ≡ b → without_block name (with_block name block xs) ≡ xs → without_block name (cond b ((record { name = x.name; blocks = x.blocks ++ block ∷ [] }) ∷ xs) (x ∷ with_block name block xs)) ≡ x ∷ xs
    go true e rest_same =
        let some : 1 ≤ length x.blocks = some-block (length x.blocks) (and-left _ _ h) in
        let size : length (x.blocks ++ block ∷ []) ≡ length x.blocks + 1 = length-append x.blocks (block ∷ []) in
        let several : nat_le (length (x.blocks ++ block ∷ [])) 1 ≡ false = grind (arith, nat_tests) in
        let rest : take (length (x.blocks ++ block ∷ []) - 1) (x.blocks ++ block ∷ []) ≡ x.blocks = front x.blocks block (length (x.blocks ++ block ∷ []) - 1) (omega arith) in
        ap (λ b. cond b (cond (nat_le (length (x.blocks ++ block ∷ [])) 1) xs ((record { name = x.name; blocks = take (length (x.blocks ++ block ∷ []) - 1) (x.blocks ++ block ∷ []) }) ∷ xs)) ((record { name = x.name; blocks = x.blocks ++ block ∷ [] }) ∷ without_block name xs)) e
        ∙ ap (λ b. cond b xs ((record { name = x.name; blocks = take (length (x.blocks ++ block ∷ []) - 1) (x.blocks ++ block ∷ []) }) ∷ xs)) several
        ∙ ap (λ bs. (record { name = x.name; blocks = bs }) ∷ xs) rest
      where
        front : {A : Type 0} (xs : List A) (y : A) (n : ℕ) → n ≡ length xs → take n (xs ++ y ∷ []) ≡ xs
        front [] y n e = ap (λ m. take m (y ∷ [])) e
        front (x ∷ xs) y zero e = absurd (omega arith)
        front (x ∷ xs) y (suc n) e = ap (λ l. x ∷ l) (front xs y n (omega arith))
    go false e rest_same =
        ap (λ b. cond b (cond (nat_le (length x.blocks) 1) (with_block name block xs) ((record { name = x.name; blocks = take (length x.blocks - 1) x.blocks }) ∷ with_block name block xs)) (x ∷ without_block name (with_block name block xs))) e
        ∙ ap (λ l. x ∷ l) rest_same

pub have-with : (ls : List Named) (name : Name) (block : List Line) → have_blocks ls ≡ true → have_blocks (with_block name block ls) ≡ true
have-with [] name block h = refl
have-with (x ∷ xs) name block h = go (bytes_eq x.name name) (have-with xs name block (and-right _ _ h))
  where
    go : (b : Bool) → have_blocks (with_block name block xs) ≡ true → have_blocks (cond b ((record { name = x.name; blocks = x.blocks ++ block ∷ [] }) ∷ xs) (x ∷ with_block name block xs)) ≡ true
    go true rest =
        let size : length (x.blocks ++ block ∷ []) ≡ length x.blocks + 1 = length-append x.blocks (block ∷ []) in
        let some : nat_le 1 (length (x.blocks ++ block ∷ [])) ≡ true = grind (arith, nat_tests) in
        ap (λ b. b && have_blocks xs) some ∙ and-right _ _ h
    go false rest = ap (λ b. b && have_blocks (with_block name block xs)) (and-left _ _ h) ∙ rest

pub have-parts : (ps : List LogLines) (ls : List Named) → have_blocks ls ≡ true → have_blocks (with_parts ps ls) ≡ true
have-parts [] ls h = h
have-parts (p ∷ ps) ls h = have-parts ps (with_block p.name p.block ls) (have-with ls p.name p.block h)

pub with_parts-push : (ps : List LogLines) (p : LogLines) (ls : List Named) → with_parts (ps ++ p ∷ []) ls ≡ with_block p.name p.block (with_parts ps ls)
with_parts-push ps p ls = fold-append (λ xs (p : LogLines). with_block p.name p.block xs) ls ps (p ∷ [])

-- one part taken back
pub part-back : (ps : List LogLines) (p d : LogLines) (n left : ℕ) (name : Name) (base now after : List Named) → have_blocks base ≡ true → left ≡ n + 1 → n < length ps → p ≡ get_or ps n d → name ≡ p.name
    → now ≡ with_parts (take left ps) base → after ≡ without_block name now → after ≡ with_parts (take n ps) base
part-back ps p d n left name base now after h e inside at named was is =
    let next : left ≡ suc n = omega arith in
    let one : take left ps ≡ take n ps ++ p ∷ [] = ap (λ m. take m ps) next ∙ take-suc ps n d inside ∙ ap (λ q. take n ps ++ q ∷ []) (sym at) in
    let before : now ≡ with_block p.name p.block (with_parts (take n ps) base) = was ∙ ap (λ qs. with_parts qs base) one ∙ with_parts-push (take n ps) p base in
    is ∙ ap (λ m. without_block m now) named ∙ ap (without_block p.name) before ∙ without-with (with_parts (take n ps) base) p.name p.block (have-parts (take n ps) base h)

-- a call that adds all parts or none leaves a block in each log
pub have-either : {T E : Type 0} (r : Result T E) (ps : List LogLines) (old new : List Named) → OnOk r (new ≡ with_parts ps old) → OnErr r (have_blocks old ≡ true → new ≡ old) → have_blocks old ≡ true → have_blocks new ≡ true
have-either (Ok x) ps old new ok err h = ap have_blocks ok ∙ have-parts ps old h
have-either (Err e) ps old new ok err h = ap have_blocks (err h) ∙ h

-- the blocks of each name, after one block more
pub blocks_of-with : (ls : List Named) (name : Name) (block : List Line) (other : Name) → blocks_of (with_block name block ls) other ≡ cond (bytes_eq name other) (blocks_of ls other ++ block ∷ []) (blocks_of ls other)
blocks_of-with [] name block other = refl
blocks_of-with (x ∷ xs) name block other = go (bytes_eq x.name name) refl (blocks_of-with xs name block other)
  where
    go : (b : Bool) → bytes_eq x.name name ≡ b → blocks_of (with_block name block xs) other ≡ cond (bytes_eq name other) (blocks_of xs other ++ block ∷ []) (blocks_of xs other) → blocks_of (cond b ((record { name = x.name; blocks = x.blocks ++ block ∷ [] }) ∷ xs) (x ∷ with_block name block xs)) other
        ≡ cond (bytes_eq name other) (cond (bytes_eq x.name other) x.blocks (blocks_of xs other) ++ block ∷ []) (cond (bytes_eq x.name other) x.blocks (blocks_of xs other))
    go true e rest =
        let named : x.name ≡ name = same-name x.name name e in
        ap (λ n. cond (bytes_eq n other) (x.blocks ++ block ∷ []) (blocks_of xs other)) named
        ∙ arms (bytes_eq name other)
        ∙ ap (λ n. cond (bytes_eq name other) (cond (bytes_eq n other) x.blocks (blocks_of xs other) ++ block ∷ []) (cond (bytes_eq n other) x.blocks (blocks_of xs other))) (sym named)
      where
        arms : (b : Bool) → cond b (x.blocks ++ block ∷ []) (blocks_of xs other) ≡ cond b (cond b x.blocks (blocks_of xs other) ++ block ∷ []) (cond b x.blocks (blocks_of xs other))
        arms true = refl
        arms false = refl
    go false e rest = ap (cond (bytes_eq x.name other) x.blocks) rest ∙ arms (bytes_eq x.name other) refl (bytes_eq name other) refl
      where
        arms : (a : Bool) → bytes_eq x.name other ≡ a → (b : Bool) → bytes_eq name other ≡ b
            → cond a x.blocks (cond b (blocks_of xs other ++ block ∷ []) (blocks_of xs other)) ≡ cond b (cond a x.blocks (blocks_of xs other) ++ block ∷ []) (cond a x.blocks (blocks_of xs other))
        arms true f true g =
            let one : x.name ≡ other = same-name x.name other f in
            let two : name ≡ other = same-name name other g in
            let yes : bytes_eq x.name name ≡ true = ap (bytes_eq x.name) (two ∙ sym one) ∙ equal-name x.name in cc
        arms true f false g = refl
        arms false f true g = refl
        arms false f false g = refl

-- and after the parts of a batch
pub blocks_of-parts : (ps : List LogLines) (ls : List Named) (name : Name) → blocks_of (with_parts ps ls) name ≡ blocks_of ls name ++ blocks_under name ps
blocks_of-parts [] ls name = sym (append-nil (blocks_of ls name))
blocks_of-parts (p ∷ ps) ls name =
    blocks_of-parts ps (with_block p.name p.block ls) name
    ∙ ap (λ bs. bs ++ blocks_under name ps) (blocks_of-with ls p.name p.block name)
    ∙ go (bytes_eq p.name name)
  where
    go : (b : Bool) → cond b (blocks_of ls name ++ p.block ∷ []) (blocks_of ls name) ++ blocks_under name ps ≡ blocks_of ls name ++ map (λ (q : LogLines). q.block) (cond b (p ∷ filter (λ (q : LogLines). bytes_eq q.name name) ps) (filter (λ (q : LogLines). bytes_eq q.name name) ps))
    go true = append_assoc (blocks_of ls name) (p.block ∷ []) (blocks_under name ps)
    go false = refl
