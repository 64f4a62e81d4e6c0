-- Bytes shown as text, with U+FFFD for what is not UTF-8, split behind the end of a line. What
-- stands before it and what follows play no part for each other.
use Rattle.std.proofs.Common.{◌≡◌, ◌⊎◌, ℕ, zero, suc, ◌+◌, ◌-◌, ◌<◌, ◌≤◌, ◌==◌, Bool, true, false, List, [], ◌∷◌, ◌++◌, length, take, drop, slice_index, None, Some, IsUtf8, refl, sym, ap, subst, ◌∙◌, arith, inl, inr, ⊎_elim, true≢false, append_assoc, length-append, length-drop, take_all, nat_lt, if◌then◌else◌}
use Rattle.std.proofs.lemmas.Bool.{cases_Bool, cases_lt, cond-true, cond-false}
use Rattle.std.proofs.lemmas.Bool.Decides.{nat_tests}
use Rattle.std.proofs.lemmas.List.{take_at, drop_at, take-append-le, drop-append-le}
use Rattle.std.proofs.Math.Seq.{take-append-add, drop-append-add, get_or-append_seam}
use Rattle.std.proofs.lemmas.Str.{IsUtf8-nil, IsUtf8-from_is_utf8, is_utf8-from_IsUtf8, IsUtf8-append, IsUtf8-drop, IsUtf8-take, IsCharBoundary-from_take, IsCharBoundary-before_ascii, utf8_lossy-IsUtf8, utf8_lossy_step, utf8_valid_len-IsValidUpTo, IsUtf8-encode, encode_ascii}
use Rattle.std.specs.Int.{is_in_range}
use Rattle.std.specs.Option.{unwrap_or}
use Rattle.std.specs.Str.{IsValidUpTo, is_utf8}
use Rattle.std.specs.Str.Lossy.{valid_len_up_to, utf8_valid_len, utf8_error_len, utf8_invalid_len, second_byte_min, second_byte_max, after_first_chunk, replacement_bytes, utf8_lossy}

longest_front : (bs : List ℕ) (m : ℕ)
    → IsUtf8 (take (valid_len_up_to bs m) bs) × ((k : ℕ) → valid_len_up_to bs m < k → k ≤ m → ¬ (IsUtf8 (take k bs)))
longest_front bs zero = (IsUtf8-nil, λ k above within. absurd (omega arith))
longest_front bs (suc m) =
    let rest = longest_front bs m in
    ⊎_elim
    (λ yes.
    let is : valid_len_up_to bs (suc m) ≡ suc m = cond-true _ _ _ yes in
    (subst (λ n. IsUtf8 (take n bs)) (sym is) (IsUtf8-from_is_utf8 _ yes), λ k above within. absurd (omega arith)))
    (λ no.
    let is : valid_len_up_to bs (suc m) ≡ valid_len_up_to bs m = cond-false _ _ _ no in (
      subst (λ n. IsUtf8 (take n bs)) (sym is) rest.0,
      λ k above within u. ⊎_elim
          (λ (top : m < k).
          let same : k ≡ suc m = omega arith in
          true≢false (sym (is_utf8-from_IsUtf8 _ (subst (λ n. IsUtf8 (take n bs)) same u)) ∙ no))
          (λ (low : k ≤ m). rest.1 k (omega arith) low u)
          (cases_lt m k),
    ))
    (cases_Bool (is_utf8 (take (suc m) bs)))

-- bytes are UTF-8, or they stop being it at some place
valid_or_not : (bs : List ℕ) → IsUtf8 bs ⊎ IsValidUpTo bs (utf8_valid_len bs)
unfolding utf8_valid_len
valid_or_not bs =
    let n = utf8_valid_len bs in
    let front = longest_front bs (length bs) in
    ⊎_elim
    (λ (short : n < length bs). inr (record {
      short = short;
      front = front.0;
      longest = λ m above u. ⊎_elim
          (λ (past : length bs < m).
          front.1 (length bs) short (omega arith) (subst IsUtf8 (take_all m bs (omega arith) ∙ sym (take_all (length bs) bs (omega arith))) u))
          (λ (within : m ≤ length bs). front.1 m above within u)
          (cases_lt (length bs) m);
    }))
    (λ (whole : length bs ≤ n). inl (subst IsUtf8 (take_all n bs whole) front.0))
    (cases_lt n (length bs))

-- UTF-8 is cut off the front of UTF-8
utf8-rest : (v w : List ℕ) → IsUtf8 v → IsUtf8 (v ++ w) → IsUtf8 w
utf8-rest v w front whole =
    let within : length v ≤ length (v ++ w) = omega (arith, length-append v w) in
    let seam = IsCharBoundary-from_take (v ++ w) (length v) whole within (subst IsUtf8 (sym (take_at v w (length v) refl)) front) in
    subst IsUtf8 (drop_at v w (length v) refl) (IsUtf8-drop (v ++ w) (length v) whole seam)

valid-behind : (v bs : List ℕ) (n : ℕ) → IsUtf8 v → IsValidUpTo bs n → IsValidUpTo (v ++ bs) (length v + n)
valid-behind v bs n u valid = record {
  short = let less = valid.short in omega (arith, length-append v bs);
  front = subst IsUtf8 (sym (take-append-add v bs n)) (IsUtf8-append v (take n bs) u valid.front);
  longest = λ m above whole.
      let k = m - length v in
      let is : m ≡ length v + k = omega arith in
      let cut : take m (v ++ bs) ≡ v ++ take k bs = ap (λ i. take i (v ++ bs)) is ∙ take-append-add v bs k in
      valid.longest k (omega arith) (utf8-rest v (take k bs) u (subst IsUtf8 cut whole));
}

-- UTF-8 in front stays as it is
lossy-front : (v bs : List ℕ) → IsUtf8 v → utf8_lossy (v ++ bs) ≡ v ++ utf8_lossy bs
lossy-front v bs u = ⊎_elim
    (λ (whole : IsUtf8 bs). utf8_lossy-IsUtf8 (v ++ bs) (IsUtf8-append v bs u whole) ∙ ap (λ t. v ++ t) (sym (utf8_lossy-IsUtf8 bs whole)))
    (λ (valid : IsValidUpTo bs (utf8_valid_len bs)).
    let n = utf8_valid_len bs in
    let all = v ++ bs in
    let short = valid.short in
    let at : utf8_valid_len all ≡ length v + n = utf8_valid_len-IsValidUpTo all (length v + n) (valid-behind v bs n u valid) in
    let front : take (utf8_valid_len all) all ≡ v ++ take n bs = ap (λ i. take i all) at ∙ take-append-add v bs n in
    let faulty : drop (utf8_valid_len all) all ≡ drop n bs = ap (λ i. drop i all) at ∙ drop-append-add v bs n in
    let size = utf8_invalid_len (drop n bs) in
    let place : utf8_valid_len all + utf8_invalid_len (drop (utf8_valid_len all) all) ≡ length v + (n + size) = omega (arith, at, ap utf8_invalid_len faulty) in
    let after : after_first_chunk all ≡ after_first_chunk bs = ap (λ i. drop i all) place ∙ drop-append-add v bs (n + size) in
    utf8_lossy_step all (λ e. omega (arith, length-append v bs))
    ∙ ap (λ t. t ++ (replacement_bytes ++ utf8_lossy (after_first_chunk all))) front
    ∙ ap (λ t. (v ++ take n bs) ++ (replacement_bytes ++ utf8_lossy t)) after
    ∙ append_assoc v (take n bs) (replacement_bytes ++ utf8_lossy (after_first_chunk bs))
    ∙ ap (λ t. v ++ t) (sym (utf8_lossy_step bs (λ e. omega arith))))
    (valid_or_not bs)

-- The end of a line goes on no character.
second-not : (x : ℕ) → is_in_range (second_byte_min x) (second_byte_max x) 10 ≡ false
second-not x = go (x == 0xE0) (x == 0xF0)
  where
    go : (first second : Bool) → is_in_range (if first then 0xA0 else (if second then 0x90 else 0x80)) (second_byte_max x) 10 ≡ false
    go true second = refl
    go false true = refl
    go false false = refl

-- what `utf8_invalid_len` computes, of the tests of the first bytes and of how many bytes there are
abbrev size_of : Bool → Bool → Bool → Bool → Bool → Bool → Bool → ℕ → ℕ
size_of none begins no_second follows no_third goes_on no_fourth n =
    unwrap_or (if none then None else (if begins then (if no_second then None else (if follows then (if no_third then None else (if goes_on then (if no_fourth then None else Some 3) else Some 2)) else Some 1)) else Some 1)) n

abbrev begins_in : List ℕ → Bool
begins_in bs = is_in_range 0xC2 0xF4 (slice_index bs 0)

abbrev follows_in : List ℕ → Bool
follows_in bs = is_in_range (second_byte_min (slice_index bs 0)) (second_byte_max (slice_index bs 0)) (slice_index bs 1)

abbrev goes_on_in : List ℕ → Bool
goes_on_in bs = is_in_range 0x80 0xBF (slice_index bs 2)

size-is : (bs : List ℕ)
    → utf8_invalid_len bs ≡ size_of (length bs == 0) (begins_in bs) (nat_lt (length bs) 2) (follows_in bs) (nat_lt (length bs) 3) (goes_on_in bs) (nat_lt (length bs) 4) (length bs)
unfolding utf8_error_len
size-is bs = refl

-- The sequence ends with the bytes or before the end of a line.
one_byte : (n z : ℕ) (r s t u v : Bool) → 1 < n → s ≡ false → size_of (n == 0) r (nat_lt n 2) s t u v z ≡ 1
one_byte n z r s t u v more not = grind (arith, nat_tests)

last_byte : (r s t u v : Bool) → size_of false r true s t u v 1 ≡ 1
last_byte true s t u v = refl
last_byte false s t u v = refl

abbrev of_two : Bool → Bool → ℕ
of_two r s = if r then (if s then 2 else 1) else 1

two_bytes : (n z : ℕ) (r s u v : Bool) → 2 < n → u ≡ false → size_of (n == 0) r (nat_lt n 2) s (nat_lt n 3) u v z ≡ of_two r s
two_bytes n z r s u v more not = grind (arith, nat_tests)

last_two : (r s u v : Bool) → size_of false r false s true u v 2 ≡ of_two r s
last_two true true u v = refl
last_two true false u v = refl
last_two false s u v = refl

abbrev of_three : Bool → Bool → Bool → ℕ
of_three r s u = if r then (if s then (if u then 3 else 2) else 1) else 1

three_bytes : (n z : ℕ) (r s u : Bool) → 3 < n → size_of (n == 0) r (nat_lt n 2) s (nat_lt n 3) u (nat_lt n 4) z ≡ of_three r s u
three_bytes n z r s u more = grind (arith, nat_tests)

last_three : (r s u : Bool) → size_of false r false s false u true 3 ≡ of_three r s u
last_three true true true = refl
last_three true true false = refl
last_three true false u = refl
last_three false s u = refl

-- An invalid sequence ends before the end of a line, as it does where the bytes end.
invalid-before : (bs rest : List ℕ) → 0 < length bs → utf8_invalid_len (bs ++ 10 ∷ rest) ≡ utf8_invalid_len bs
invalid-before [] rest some = absurd (omega arith)
invalid-before (x ∷ []) rest some =
    let few = x ∷ [] in
    let all = x ∷ 10 ∷ rest in
    let n = length all in
    size-is all
    ∙ one_byte n n (begins_in all) (follows_in all) (nat_lt n 3) (goes_on_in all) (nat_lt n 4) (omega arith) (second-not x)
    ∙ sym (size-is few ∙ last_byte (begins_in few) (follows_in few) (nat_lt 1 3) (goes_on_in few) (nat_lt 1 4))
invalid-before (x ∷ y ∷ []) rest some =
    let few = x ∷ y ∷ [] in
    let all = x ∷ y ∷ 10 ∷ rest in
    let n = length all in
    size-is all
    ∙ two_bytes n n (begins_in all) (follows_in all) (goes_on_in all) (nat_lt n 4) (omega arith) refl
    ∙ sym (size-is few ∙ last_two (begins_in few) (follows_in few) (goes_on_in few) (nat_lt 2 4))
invalid-before (x ∷ y ∷ z ∷ []) rest some =
    let few = x ∷ y ∷ z ∷ [] in
    let all = x ∷ y ∷ z ∷ 10 ∷ rest in
    let n = length all in
    size-is all
    ∙ three_bytes n n (begins_in all) (follows_in all) (goes_on_in all) (omega arith)
    ∙ sym (size-is few ∙ last_three (begins_in few) (follows_in few) (goes_on_in few))
invalid-before (x ∷ y ∷ z ∷ u ∷ us) rest some =
    let few = x ∷ y ∷ z ∷ u ∷ us in
    let all = few ++ 10 ∷ rest in
    let n = length all in
    let m = length few in
    size-is all
    ∙ three_bytes n n (begins_in all) (follows_in all) (goes_on_in all) (omega arith)
    ∙ sym (size-is few ∙ three_bytes m m (begins_in few) (follows_in few) (goes_on_in few) (omega arith))

IsSize : ℕ → ℕ → Type 0
IsSize size n = (0 < size) × (size ≤ n)

-- it has a byte at least, and no more than there are
size-fits : (n : ℕ) (r s u : Bool) → 0 < n → IsSize (size_of (n == 0) r (nat_lt n 2) s (nat_lt n 3) u (nat_lt n 4) n) n
unfolding IsSize
size-fits n r s u some = (grind (arith, nat_tests), grind (arith, nat_tests))

invalid-fits : (bs : List ℕ) → 0 < length bs → IsSize (utf8_invalid_len bs) (length bs)
invalid-fits bs some = subst (λ size. IsSize size (length bs)) (sym (size-is bs)) (size-fits (length bs) (begins_in bs) (follows_in bs) (goes_on_in bs) some)

-- bytes that are not UTF-8 stop being it at the same place, whatever follows the end of their line
valid-before : (bs rest : List ℕ) (n : ℕ) → IsValidUpTo bs n → IsValidUpTo (bs ++ 10 ∷ rest) n
valid-before bs rest n valid =
    let less = valid.short in
    let all = bs ++ 10 ∷ rest in
    record {
      short = omega (arith, length-append bs (10 ∷ rest));
      front = subst IsUtf8 (sym (take-append-le n bs (10 ∷ rest) (omega arith))) valid.front;
      longest = λ m above whole. ⊎_elim
          (λ (past : length bs < m). valid.longest (length bs) less (utf8-line bs rest m past whole))
          (λ (within : m ≤ length bs). valid.longest m above (subst IsUtf8 (take-append-le m bs (10 ∷ rest) within) whole))
          (cases_lt (length bs) m);
    }
  where
    utf8-line : (bs rest : List ℕ) (m : ℕ) → length bs < m → IsUtf8 (take m (bs ++ 10 ∷ rest)) → IsUtf8 (take (length bs) bs)
    utf8-line bs rest m past whole =
        let k = m - length bs - 1 in
        let is : m ≡ length bs + suc k = omega arith in
        let cut : take m (bs ++ 10 ∷ rest) ≡ bs ++ 10 ∷ take k rest = ap (λ i. take i (bs ++ 10 ∷ rest)) is ∙ take-append-add bs (10 ∷ rest) (suc k) in
        let line = bs ++ 10 ∷ take k rest in
        let u : IsUtf8 line = subst IsUtf8 cut whole in
        let within : length bs < length line = omega (arith, length-append bs (10 ∷ take k rest)) in
        let seam = IsCharBoundary-before_ascii line (length bs) within (omega (arith, get_or-append_seam bs 10 (take k rest) 0)) in
        let front : take (length bs) line ≡ take (length bs) bs = take-append-le (length bs) bs (10 ∷ take k rest) (omega arith) in
        subst IsUtf8 front (IsUtf8-take line (length bs) u seam)

line_end-utf8 : IsUtf8 (10 ∷ [])
line_end-utf8 = subst IsUtf8 (encode_ascii 10 (omega arith)) (IsUtf8-encode 10 refl)

splits-utf8 : (bs rest : List ℕ) → IsUtf8 bs → utf8_lossy (bs ++ 10 ∷ rest) ≡ utf8_lossy bs ++ 10 ∷ utf8_lossy rest
splits-utf8 bs rest u =
    lossy-front bs (10 ∷ rest) u
    ∙ ap (λ t. bs ++ t) (lossy-front (10 ∷ []) rest line_end-utf8)
    ∙ ap (λ t. t ++ 10 ∷ utf8_lossy rest) (sym (utf8_lossy-IsUtf8 bs u))

splits-within : (k : ℕ) (bs rest : List ℕ) → length bs ≤ k → utf8_lossy (bs ++ 10 ∷ rest) ≡ utf8_lossy bs ++ 10 ∷ utf8_lossy rest
unfolding IsSize
splits-within zero bs rest few = ⊎_elim
    (λ u. splits-utf8 bs rest u)
    (λ (valid : IsValidUpTo bs (utf8_valid_len bs)). let less = valid.short in absurd (omega arith))
    (valid_or_not bs)
splits-within (suc k) bs rest few = ⊎_elim
    (λ u. splits-utf8 bs rest u)
    (λ (valid : IsValidUpTo bs (utf8_valid_len bs)).
    let less = valid.short in
    let n = utf8_valid_len bs in
    let all = bs ++ 10 ∷ rest in
    let more = length-append bs (10 ∷ rest) in
    let faulty = drop n bs in
    let left : length faulty ≡ length bs - n = length-drop n bs in
    let size = utf8_invalid_len faulty in
    let fits = invalid-fits faulty (omega arith) in
    let at : utf8_valid_len all ≡ n = utf8_valid_len-IsValidUpTo all n (valid-before bs rest n valid) in
    let front : take (utf8_valid_len all) all ≡ take n bs = ap (λ i. take i all) at ∙ take-append-le n bs (10 ∷ rest) (omega arith) in
    let behind : drop (utf8_valid_len all) all ≡ faulty ++ 10 ∷ rest = ap (λ i. drop i all) at ∙ drop-append-le n bs (10 ∷ rest) (omega arith) in
    let same : utf8_invalid_len (drop (utf8_valid_len all) all) ≡ size = ap utf8_invalid_len behind ∙ invalid-before faulty rest (omega arith) in
    let place : utf8_valid_len all + utf8_invalid_len (drop (utf8_valid_len all) all) ≡ n + size = omega (arith, at, same) in
    let low = fits.0 in
    let high = fits.1 in
    let after : after_first_chunk all ≡ after_first_chunk bs ++ 10 ∷ rest = ap (λ i. drop i all) place ∙ drop-append-le (n + size) bs (10 ∷ rest) (omega arith) in
    let shorter : length (after_first_chunk bs) ≡ length bs - (n + size) = length-drop (n + size) bs in
    let deeper = splits-within k (after_first_chunk bs) rest (omega arith) in
    let back = utf8_lossy (after_first_chunk bs) in
    utf8_lossy_step all (λ e. omega arith)
    ∙ ap (λ t. t ++ (replacement_bytes ++ utf8_lossy (after_first_chunk all))) front
    ∙ ap (λ t. take n bs ++ (replacement_bytes ++ t)) (ap utf8_lossy after ∙ deeper)
    ∙ ap (λ t. take n bs ++ t) (sym (append_assoc replacement_bytes back (10 ∷ utf8_lossy rest)))
    ∙ sym (append_assoc (take n bs) (replacement_bytes ++ back) (10 ∷ utf8_lossy rest))
    ∙ ap (λ t. t ++ 10 ∷ utf8_lossy rest) (sym (utf8_lossy_step bs (λ e. omega arith))))
    (valid_or_not bs)

pub lossy_splits : (bs rest : List ℕ) → utf8_lossy (bs ++ 10 ∷ rest) ≡ utf8_lossy bs ++ 10 ∷ utf8_lossy rest
lossy_splits bs rest = splits-within (length bs) bs rest (omega arith)
