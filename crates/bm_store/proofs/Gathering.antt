-- The asked lines of a log, gathered from its blocks.
use Rattle.std.proofs.Common.{◌≡◌, refl, sym, ◌∙◌, ap, ℕ, zero, suc, ◌+◌, ◌-◌, ◌≤◌, ◌<◌, List, [], ◌∷◌, ◌++◌, length, take, drop, get_or, Some, true, false, arith, length-append, append_assoc, inl, inr, min}
use Rattle.std.specs.Prelude.{◌⊎◌, map, slice_get}
use Rattle.std.proofs.lemmas.List.{append-nil, take-append-drop, length-take, drop_all, drop-drop, drop-take, drop-append-le}
use Rattle.std.proofs.lemmas.List.Concat.{flat_map-append}
use Rattle.std.proofs.Math.Seq.{drop-append-add}
use Rattle.bm_lines.specs.Lines.{Line, content_of}
use Rattle.bm_lines.proofs.Contents.{content_of-append}
use Rattle.bm_session.specs.Trace.{joined, slice}
use Rattle.bm_store.specs.declared.placed.Placed.{Placed}
use Rattle.bm_store.specs.Book.{placed}
use Rattle.bm_store.specs.Placing.{block_at}
use Rattle.bm_store.specs.Portions.{IsPortion}
use Rattle.bm_store.proofs.Places.{place-at}

pub map-drop : {A B : Type 0} (f : A → B) (i : ℕ) (xs : List A) → map f (drop i xs) ≡ drop i (map f xs)
map-drop f zero xs = refl
map-drop f (suc i) [] = refl
map-drop f (suc i) (x ∷ xs) = map-drop f i xs

-- behind the lines of the blocks before place i
drop-joined : (bs : List (List Line)) (i n before : ℕ) → before ≡ length (joined (take i bs)) → before ≤ n → drop n (joined bs) ≡ drop (n - before) (joined (drop i bs))
drop-joined bs i n before e l =
    let parts : joined bs ≡ joined (take i bs) ++ joined (drop i bs) = ap joined (sym (take-append-drop i bs)) ∙ flat_map-append (λ (b : List Line). b) (take i bs) (drop i bs) in
    let same : n ≡ length (joined (take i bs)) + (n - before) = omega arith in
    ap (drop n) parts ∙ ap (λ m. drop m (joined (take i bs) ++ joined (drop i bs))) same ∙ drop-append-add (joined (take i bs)) (joined (drop i bs)) (n - before)

pub get-or-some : {A : Type 0} (xs : List A) (i : ℕ) (d : A) → i < length xs → slice_get xs i ≡ Some (get_or xs i d)
get-or-some [] i d l = absurd (omega arith)
get-or-some (x ∷ xs) zero d l = refl
get-or-some (x ∷ xs) (suc i) d l = get-or-some xs i d (omega arith)

-- the block at place i is known by how many lines stand before it
pub stands-at : (ps : List Placed) (i : ℕ) (p : Placed) → ps ≡ placed (map block_at ps) → slice_get ps i ≡ Some p → p.first ≡ length (joined (take i (map block_at ps)))
stands-at ps i p exact at = place-at 0 i (map block_at ps) p (ap (λ l. slice_get l i) (sym exact) ∙ at) ∙ omega arith

pub stands-or : (ps : List Placed) (i : ℕ) (d : Placed) → ps ≡ placed (map block_at ps) → i < length ps → (get_or ps i d).first ≡ length (joined (take i (map block_at ps)))
stands-or ps i d exact inside = stands-at ps i (get_or ps i d) exact (get-or-some ps i d inside)

pub found-at : (ps : List Placed) (i n before : ℕ) → before ≡ length (joined (take i (map block_at ps))) → before ≤ n → drop n (joined (map block_at ps)) ≡ drop (n - before) (joined (map block_at (drop i ps)))
found-at ps i n before e l = drop-joined (map block_at ps) i n before e l ∙ ap (λ bs. drop (n - before) (joined bs)) (sym (map-drop block_at i ps))

pub drop-both : {A : Type 0} (n : ℕ) (xs ys : List A) → drop n (xs ++ ys) ≡ drop n xs ++ drop (n - length xs) ys
drop-both zero [] ys = refl
drop-both zero (x ∷ xs) ys = let none : 0 - length (x ∷ xs) ≡ 0 = omega arith in ap (λ m. x ∷ xs ++ drop m ys) (sym none)
drop-both (suc n) [] ys = let all : suc n - 0 ≡ suc n = omega arith in ap (λ m. drop m ys) (sym all)
drop-both (suc n) (x ∷ xs) ys = let less : n - length xs ≡ suc n - length (x ∷ xs) = omega arith in drop-both n xs ys ∙ ap (λ m. drop n xs ++ drop m ys) less

pub take-both : {A : Type 0} (n : ℕ) (xs ys : List A) → take n (xs ++ ys) ≡ take n xs ++ take (n - length xs) ys
take-both zero [] ys = refl
take-both zero (x ∷ xs) ys = let none : 0 - length (x ∷ xs) ≡ 0 = omega arith in ap (λ m. take m ys) (sym none)
take-both (suc n) [] ys = let all : suc n - 0 ≡ suc n = omega arith in ap (λ m. take m ys) (sym all)
take-both (suc n) (x ∷ xs) ys = let less : n - length xs ≡ suc n - length (x ∷ xs) = omega arith in ap (λ l. x ∷ l) (take-both n xs ys ∙ ap (λ m. take n xs ++ take m ys) less)

-- a slice over two lists: as far as the first goes, then of the second
slice-both : (xs ys : List Line) (skip left : ℕ) → slice (xs ++ ys) skip left ≡ slice xs skip left ++ slice ys (skip - length xs) (left - length (slice xs skip left))
slice-both xs ys skip left =
    let size : length (slice xs skip left) ≡ min left (length (drop skip xs)) = length-take left (drop skip xs) in
    let same : left - length (drop skip xs) ≡ left - length (slice xs skip left) = omega arith in
    ap (take left) (drop-both skip xs ys) ∙ take-both left (drop skip xs) (drop (skip - length xs) ys) ∙ ap (λ m. slice xs skip left ++ take m (drop (skip - length xs) ys)) same

drop-next : (ps : List Placed) (i : ℕ) (p : Placed) → slice_get ps i ≡ Some p → drop i ps ≡ p ∷ drop (i + 1) ps
drop-next [] i p h = cc
drop-next (q ∷ qs) zero p h = let same : q ≡ p = cc in ap (λ x. x ∷ qs) same
drop-next (q ∷ qs) (suc i) p h = let one : suc i + 1 ≡ suc (i + 1) = omega arith in drop-next qs i p h ∙ ap (λ l. p ∷ l) (ap (λ n. drop n (q ∷ qs)) (sym one))

-- what is asked of the blocks from place i on
abbrev pub asked : List Placed → ℕ → ℕ → ℕ → List Line
asked ps i skip left = slice (joined (map block_at (drop i ps))) skip left

-- that of the block at place i, and the rest
pub asked-next : (ps : List Placed) (i : ℕ) (p : Placed) (skip left : ℕ) → slice_get ps i ≡ Some p
    → asked ps i skip left ≡ slice p.block skip left ++ asked ps (i + 1) (skip - length p.block) (left - length (slice p.block skip left))
asked-next ps i p skip left h = ap (λ qs. slice (joined (map block_at qs)) skip left) (drop-next ps i p h) ∙ slice-both p.block (joined (map block_at (drop (i + 1) ps))) skip left

-- What was gathered is the first part of what was asked of the blocks from a place on, and the
-- rest is still asked. The text of all, behind its first bytes, is what was appended and then the
-- text of the rest, behind its own first bytes.
pub record IsGathering (ps : List Placed) (from i before left skip before' limit skip' : ℕ) (out old : List ℕ) : Type 0 where
  pub gathered : List Line
  pub parts : asked ps from before' limit ≡ gathered ++ asked ps i before left
  pub count : length gathered + left ≡ limit
  pub text : old ++ drop skip' (content_of (asked ps from before' limit)) ≡ out ++ drop skip (content_of (asked ps i before left))

pub gathering-start : (ps : List Placed) (from before limit skip : ℕ) (out : List ℕ) → IsGathering ps from from before limit skip before limit skip out out
gathering-start ps from before limit skip out = record { gathered = []; parts = refl; count = omega arith; text = refl }

-- the text of what is asked: that of the block at place i, and of the rest
asked-text : (ps : List Placed) (i : ℕ) (p : Placed) (before left before2 left2 : ℕ) → slice_get ps i ≡ Some p → before2 ≡ before - length p.block → left2 ≡ left - length (slice p.block before left)
    → asked ps i before left ≡ slice p.block before left ++ asked ps (i + 1) before2 left2
asked-text ps i p before left before2 left2 at ahead less =
    asked-next ps i p before left at
    ∙ ap (λ m. slice p.block before left ++ asked ps (i + 1) m (left - length (slice p.block before left))) (sym ahead)
    ∙ ap (λ m. slice p.block before left ++ asked ps (i + 1) before2 m) (sym less)

-- what is asked of one block was appended
pub gathering-next : (ps : List Placed) (from i : ℕ) (p : Placed) (before left skip before' limit skip' before2 left2 skip2 : ℕ) (out out2 old : List ℕ) → slice_get ps i ≡ Some p → IsGathering ps from i before left skip before' limit skip' out old
    → out2 ≡ out ++ drop skip (content_of (slice p.block before left)) → skip2 ≡ skip - length (content_of (slice p.block before left)) → before2 ≡ before - length p.block → left2 ≡ left - length (slice p.block before left)
    → IsGathering ps from (i + 1) before2 left2 skip2 before' limit skip' out2 old
gathering-next ps from i p before left skip before' limit skip' before2 left2 skip2 out out2 old at h grown told ahead less =
    let part : List Line = slice p.block before left in
    let rest : List Line = asked ps (i + 1) before2 left2 in
    let next : asked ps i before left ≡ part ++ rest = asked-text ps i p before left before2 left2 at ahead less in
    let size : length part ≡ min left (length (drop before p.block)) = length-take left (drop before p.block) in
    let sum : length h.gathered + left ≡ limit = h.count in
    let total : length (h.gathered ++ part) ≡ length h.gathered + length part = length-append h.gathered part in
    record {
      gathered = h.gathered ++ part;
      parts = h.parts ∙ ap (λ l. h.gathered ++ l) next ∙ sym (append_assoc h.gathered part rest);
      count = omega arith;
      text =
          h.text
          ∙ ap (λ l. out ++ drop skip (content_of l)) next
          ∙ ap (λ t. out ++ drop skip t) (content_of-append part rest)
          ∙ ap (λ t. out ++ t) (drop-both skip (content_of part) (content_of rest))
          ∙ sym (append_assoc out (drop skip (content_of part)) (drop (skip - length (content_of part)) (content_of rest)))
          ∙ ap (λ t. t ++ drop (skip - length (content_of part)) (content_of rest)) (sym grown)
          ∙ ap (λ m. out2 ++ drop m (content_of rest)) (sym told);
    }

-- nothing is asked any more
pub nothing-asked : (ps : List Placed) (i skip left : ℕ) → (left ≡ 0) ⊎ (length ps ≤ i) → asked ps i skip left ≡ []
nothing-asked ps i skip left (inl e) = ap (λ m. asked ps i skip m) e
nothing-asked ps i skip left (inr l) = ap (λ qs. slice (joined (map block_at qs)) skip left) (drop_all i ps l) ∙ none skip left
  where
    none : (skip left : ℕ) → take {A = Line} left (drop skip []) ≡ []
    none zero zero = refl
    none zero (suc n) = refl
    none (suc k) zero = refl
    none (suc k) (suc n) = refl

-- what was gathered, in the end
pub record IsGathered (ps : List Placed) (from before limit skip n : ℕ) (out old : List ℕ) : Type 0 where
  pub content : out ≡ old ++ drop skip (content_of (asked ps from before limit))
  pub count : n ≡ length (asked ps from before limit)

drop-none : {A : Type 0} (n : ℕ) → drop {A = A} n [] ≡ []
drop-none zero = refl
drop-none (suc n) = refl

pub gathering-end : (ps : List Placed) (from i before left skip before' limit skip' n : ℕ) (out old : List ℕ) → IsGathering ps from i before left skip before' limit skip' out old → n ≡ limit - left → (left ≡ 0) ⊎ (length ps ≤ i)
    → IsGathered ps from before' limit skip' n out old
gathering-end ps from i before left skip before' limit skip' n out old h e done =
    let none : asked ps i before left ≡ [] = nothing-asked ps i before left done in
    let all : asked ps from before' limit ≡ h.gathered = h.parts ∙ ap (λ l. h.gathered ++ l) none ∙ append-nil h.gathered in
    let sum : length h.gathered + left ≡ limit = h.count in
    let size : n ≡ length h.gathered = omega arith in
    record {
      content = sym (h.text ∙ ap (λ l. out ++ drop skip (content_of l)) none ∙ ap (λ t. out ++ t) (drop-none skip) ∙ append-nil out);
      count = size ∙ ap length (sym all);
    }

-- behind a part of what is asked is the rest of it
rest-asked : (ls : List Line) (off limit n : ℕ) (gathered rest : List Line) → slice ls off limit ≡ gathered ++ rest → n ≡ length gathered → n ≤ limit → slice ls (off + n) (limit - n) ≡ rest
rest-asked ls off limit n gathered rest e size few =
    let sum : n + (limit - n) ≡ limit = omega arith in
    let over : n - length gathered ≡ 0 = omega arith in
    ap (take (limit - n)) (sym (drop-drop n off ls))
    ∙ sym (drop-take n (limit - n) (drop off ls))
    ∙ ap (λ m. drop n (take m (drop off ls))) sum
    ∙ ap (drop n) e
    ∙ drop-both n gathered rest
    ∙ ap (λ l. l ++ drop (n - length gathered) rest) (drop_all n gathered (omega arith))
    ∙ ap (λ m. drop m rest) over

-- what is asked of a log is what is asked of its blocks from a place on
abbrev pub IsSought : List Placed → ℕ → ℕ → ℕ → Type 0
IsSought ps off start before = drop off (joined (map block_at ps)) ≡ drop before (joined (map block_at (drop start ps)))

-- all that was asked was appended
pub whole-portion : (ps : List Placed) (off start before0 limit skip0 i before left skip most : ℕ) (out : List ℕ) → IsSought ps off start before0 → IsGathering ps start i before left skip before0 limit skip0 out [] → length out ≤ most
    → (left ≡ 0) ⊎ (length ps ≤ i) → IsPortion (joined (map block_at ps)) off limit skip0 most (record { content = out; lines = limit - left; skip = 0; is_last = true })
whole-portion ps off start before0 limit skip0 i before left skip most out sought h short done =
    let ls : List Line = joined (map block_at ps) in
    let same : slice ls off limit ≡ asked ps start before0 limit = ap (take limit) sought in
    let ended : IsGathered ps start before0 limit skip0 (limit - left) out [] = gathering-end ps start i before left skip before0 limit skip0 (limit - left) out [] h refl done in
    let sum : length h.gathered + left ≡ limit = h.count in
    let none : asked ps i before left ≡ [] = nothing-asked ps i before left done in
    let rest : slice ls (off + (limit - left)) (limit - (limit - left)) ≡ [] = rest-asked ls off limit (limit - left) h.gathered (asked ps i before left) (same ∙ h.parts) (omega arith) (omega arith) ∙ none in
    let content : out ≡ drop skip0 (content_of (slice ls off limit)) = ended.content ∙ ap (λ l. drop skip0 (content_of l)) (sym same) in
    record {
      few = omega arith;
      short = short;
      parts = sym content ∙ sym (append-nil out) ∙ ap (λ l. out ++ content_of l) (sym rest);
      last = λ _. (content, ended.count ∙ ap length (sym same));
      full = λ h. absurd (cc h);
      more = λ h. absurd (cc h);
    }

-- a part of what is asked of one block was appended
pub cut-portion : (ps : List Placed) (off start before0 limit skip0 i : ℕ) (p : Placed) (before left skip told most : ℕ) (out out2 : List ℕ) → IsSought ps off start before0 → slice_get ps i ≡ Some p
    → IsGathering ps start i before left skip before0 limit skip0 out [] → length out2 ≤ most → most < length out2 + 4
    → out ++ drop skip (content_of (slice p.block before left)) ≡ out2 ++ drop told (content_of (slice p.block before left)) → skip < length (content_of (slice p.block before left)) → told < length (content_of (slice p.block before left))
    → IsPortion (joined (map block_at ps)) off limit skip0 most (record { content = out2; lines = limit - left; skip = told; is_last = false })
cut-portion ps off start before0 limit skip0 i p before left skip told most out out2 sought at h short full cut some inside =
    let ls : List Line = joined (map block_at ps) in
    let part : List ℕ = content_of (slice p.block before left) in
    let more : List Line = asked ps (i + 1) (before - length p.block) (left - length (slice p.block before left)) in
    let same : slice ls off limit ≡ asked ps start before0 limit = ap (take limit) sought in
    let sum : length h.gathered + left ≡ limit = h.count in
    let rest : slice ls (off + (limit - left)) (limit - (limit - left)) ≡ asked ps i before left = rest-asked ls off limit (limit - left) h.gathered (asked ps i before left) (same ∙ h.parts) (omega arith) (omega arith) in
    let text : content_of (asked ps i before left) ≡ part ++ content_of more = ap content_of (asked-next ps i p before left at) ∙ content_of-append (slice p.block before left) more in
    record {
      few = omega arith;
      short = short;
      parts =
          ap (λ l. drop skip0 (content_of l)) same
          ∙ h.text
          ∙ ap (λ t. out ++ drop skip t) text
          ∙ ap (λ t. out ++ t) (drop-append-le skip part (content_of more) (omega arith))
          ∙ sym (append_assoc out (drop skip part) (content_of more))
          ∙ ap (λ t. t ++ content_of more) cut
          ∙ append_assoc out2 (drop told part) (content_of more)
          ∙ ap (λ t. out2 ++ t) (sym (drop-append-le told part (content_of more) (omega arith)))
          ∙ ap (λ t. out2 ++ drop told t) (sym text)
          ∙ ap (λ l. out2 ++ drop told (content_of l)) (sym rest);
      last = λ h. absurd (cc h);
      full = λ _. full;
      more = λ _. omega (arith, ap (λ l. length (content_of l)) rest, ap length text, length-append part (content_of more), inside);
    }
