-- Reading values one after the other, as a loop does.
use Rattle.std.proofs.Common.{◌≡◌, ℕ, suc, ◌-◌, ◌+◌, ◌≤◌, ◌<◌, List, [], ◌∷◌, ◌++◌, Ok, Err, refl, sym, ap, ◌∙◌, arith}
use Rattle.bm_value.specs.declared.fault.DecodeError.{DecodeError}
use Rattle.bm_value.specs.declared.fault.DecodeError.TheVariants.{Truncated, Reserved, BadUtf8, TooDeep, Trailing, Mem}
use Rattle.bm_value.specs.Tree.{Tree, Trees, none, item, Pairs, no_pairs, pair, TreePair}
use Rattle.bm_value.specs.View.{trees_of, pairs_of}
use Rattle.bm_value.specs.Reading.{Answer, Parse, ◌>>=◌, mapped, Refuses, items_at, pair_at, pairs_at}

-- trees before others
abbrev pub onto : List Tree → Trees → Trees
onto [] ts = ts
onto (t ∷ front) ts = item t (onto front ts)

onto-one : (front : List Tree) (t : Tree) (ts : Trees) → onto front (item t ts) ≡ onto (front ++ t ∷ []) ts
onto-one [] t ts = refl
onto-one (x ∷ front) t ts = ap (item x) (onto-one front t ts)

onto-none : (front : List Tree) → onto front none ≡ trees_of front
onto-none [] = refl
onto-none (x ∷ front) = ap (item x) (onto-none front)

-- a fault stays the fault of what it is a part of
pub refused : {X Y : Type 0} (e : DecodeError) (part : Answer X) (f : X × List ℕ → Answer Y) → Refuses e part → Refuses e (part >>= f)
refused Truncated part f h = ap (λ r. r >>= f) h
refused Reserved part f h = ap (λ r. r >>= f) h
refused BadUtf8 part f h = ap (λ r. r >>= f) h
refused TooDeep part f h = ap (λ r. r >>= f) h
refused Trailing part f h = ap (λ r. r >>= f) h
refused Mem part f h = tt

pub refused-mapped : {X Y : Type 0} (e : DecodeError) (part : Answer X) (f : X → Y) → Refuses e part → Refuses e (mapped f part)
refused-mapped Truncated part f h = ap (mapped f) h
refused-mapped Reserved part f h = ap (mapped f) h
refused-mapped BadUtf8 part f h = ap (mapped f) h
refused-mapped TooDeep part f h = ap (mapped f) h
refused-mapped Trailing part f h = ap (mapped f) h
refused-mapped Mem part f h = tt

pub refused-along : {Y : Type 0} (e : DecodeError) (a b : Answer Y) → a ≡ b → Refuses e a → Refuses e b
refused-along Truncated a b is h = sym is ∙ h
refused-along Reserved a b is h = sym is ∙ h
refused-along BadUtf8 a b is h = sym is ∙ h
refused-along TooDeep a b is h = sym is ∙ h
refused-along Trailing a b is h = sym is ∙ h
refused-along Mem a b is h = tt

-- ---- arrays

regroup : (front : List Tree) (t : Tree) (read : Answer Trees) → mapped (onto front) (mapped (item t) read) ≡ mapped (onto (front ++ t ∷ [])) read
regroup front t (Ok x) = ap (λ (ts : Trees). Ok (ts, x.1)) (onto-one front t x.0)
regroup front t (Err f) = refl

pub item_read : (value : Parse Tree) (front : List Tree) (count i : ℕ) (bytes : List ℕ) (t : Tree) (after : List ℕ) (total : Answer Trees) → i < count → value bytes ≡ Ok (t, after)
    → mapped (onto front) (items_at value (count - i) bytes) ≡ total → mapped (onto (front ++ t ∷ [])) (items_at value (count - (i + 1)) after) ≡ total
unfolding items_at
item_read value front count i bytes t after total lt h so_far =
    let k : count - i ≡ suc (count - (i + 1)) = omega arith in
    let one : mapped (onto front) (items_at value (count - i) bytes) ≡ mapped (onto (front ++ t ∷ [])) (items_at value (count - (i + 1)) after) = rw (k, h) (regroup front t (items_at value (count - (i + 1)) after)) in
    sym one ∙ so_far

pub item_refused : (value : Parse Tree) (e : DecodeError) (front : List Tree) (count i : ℕ) (bytes : List ℕ) (total : Answer Trees) → i < count → Refuses e (value bytes)
    → mapped (onto front) (items_at value (count - i) bytes) ≡ total → Refuses e total
unfolding items_at
item_refused value e front count i bytes total lt h so_far =
    let k : count - i ≡ suc (count - (i + 1)) = omega arith in
    let inside = refused-mapped e _ (onto front) (refused e (value bytes) (λ t. mapped (item t.0) (items_at value (count - (i + 1)) t.1)) h) in
    refused-along e _ total (ap (λ n. mapped (onto front) (items_at value n bytes)) (sym k) ∙ so_far) inside

pub items_done : (value : Parse Tree) (front : List Tree) (count i : ℕ) (bytes : List ℕ) (total : Answer Trees) → count ≤ i → mapped (onto front) (items_at value (count - i) bytes) ≡ total → total ≡ Ok (trees_of front, bytes)
unfolding items_at
items_done value front count i bytes total le so_far =
    let k : count - i ≡ 0 = omega arith in
    let one : mapped (onto front) (items_at value (count - i) bytes) ≡ Ok (trees_of front, bytes) = rw k (ap (λ (ts : Trees). Ok (ts, bytes)) (onto-none front)) in
    sym so_far ∙ one

-- ---- maps

abbrev pub onto_pairs : List TreePair → Pairs → Pairs
onto_pairs [] ps = ps
onto_pairs (p ∷ front) ps = pair p.key p.value (onto_pairs front ps)

onto_pairs-one : (front : List TreePair) (p : TreePair) (ps : Pairs) → onto_pairs front (pair p.key p.value ps) ≡ onto_pairs (front ++ p ∷ []) ps
onto_pairs-one [] p ps = refl
onto_pairs-one (x ∷ front) p ps = ap (pair x.key x.value) (onto_pairs-one front p ps)

onto_pairs-none : (front : List TreePair) → onto_pairs front no_pairs ≡ pairs_of front
onto_pairs-none [] = refl
onto_pairs-none (x ∷ front) = ap (pair x.key x.value) (onto_pairs-none front)

regroup_pairs : (front : List TreePair) (p : TreePair) (read : Answer Pairs) → mapped (onto_pairs front) (mapped (pair p.key p.value) read) ≡ mapped (onto_pairs (front ++ p ∷ [])) read
regroup_pairs front p (Ok x) = ap (λ (ps : Pairs). Ok (ps, x.1)) (onto_pairs-one front p x.0)
regroup_pairs front p (Err f) = refl

pub pair_read : (value : Parse Tree) (front : List TreePair) (count i : ℕ) (bytes : List ℕ) (p : TreePair) (after : List ℕ) (total : Answer Pairs) → i < count → pair_at value bytes ≡ Ok (p, after)
    → mapped (onto_pairs front) (pairs_at value (count - i) bytes) ≡ total → mapped (onto_pairs (front ++ p ∷ [])) (pairs_at value (count - (i + 1)) after) ≡ total
unfolding pairs_at
pair_read value front count i bytes p after total lt h so_far =
    let k : count - i ≡ suc (count - (i + 1)) = omega arith in
    let one : mapped (onto_pairs front) (pairs_at value (count - i) bytes) ≡ mapped (onto_pairs (front ++ p ∷ [])) (pairs_at value (count - (i + 1)) after) =
    ap (λ n. mapped (onto_pairs front) (pairs_at value n bytes)) k ∙ ap (λ (r : Answer TreePair). mapped (onto_pairs front) (r >>= λ q. mapped (pair q.0.key q.0.value) (pairs_at value (count - (i + 1)) q.1))) h ∙ regroup_pairs front p (pairs_at value (count - (i + 1)) after) in
    sym one ∙ so_far

pub pair_refused : (value : Parse Tree) (e : DecodeError) (front : List TreePair) (count i : ℕ) (bytes : List ℕ) (total : Answer Pairs) → i < count → Refuses e (pair_at value bytes)
    → mapped (onto_pairs front) (pairs_at value (count - i) bytes) ≡ total → Refuses e total
unfolding pairs_at
pair_refused value e front count i bytes total lt h so_far =
    let k : count - i ≡ suc (count - (i + 1)) = omega arith in
    let inside = refused-mapped e _ (onto_pairs front) (refused e (pair_at value bytes) (λ q. mapped (pair q.0.key q.0.value) (pairs_at value (count - (i + 1)) q.1)) h) in
    refused-along e _ total (ap (λ n. mapped (onto_pairs front) (pairs_at value n bytes)) (sym k) ∙ so_far) inside

pub pairs_done : (value : Parse Tree) (front : List TreePair) (count i : ℕ) (bytes : List ℕ) (total : Answer Pairs) → count ≤ i → mapped (onto_pairs front) (pairs_at value (count - i) bytes) ≡ total → total ≡ Ok (pairs_of front, bytes)
unfolding pairs_at
pairs_done value front count i bytes total le so_far =
    let k : count - i ≡ 0 = omega arith in
    let one : mapped (onto_pairs front) (pairs_at value (count - i) bytes) ≡ Ok (pairs_of front, bytes) = rw k (ap (λ (ps : Pairs). Ok (ps, bytes)) (onto_pairs-none front)) in
    sym so_far ∙ one
