-- The texts of a pipe are short enough to be said.
use Rattle.std.proofs.Common.{◌≡◌, refl, subst, ℕ, zero, suc, ◌+◌, ◌*◌, ◌-◌, ◌<◌, ◌≤◌, ◌==◌, ◌||◌, Bool, true, false, List, [], ◌∷◌, ◌++◌, length, take, drop, Option, Some, None, nat_lt, if◌then◌else◌, arith}
use Rattle.std.specs.Option.{unwrap_or}
use Rattle.std.specs.Str.Lossy.{utf8_lossy, utf8_lossy_within, utf8_valid_len, utf8_invalid_len, utf8_error_len, error_len_after_two, error_len_after_one, error_len_of_some, after_first_chunk, replacement_bytes, second_byte_min, second_byte_max}
use Rattle.std.specs.Int.{is_in_range}
use Rattle.std.specs.List.{slice_index}
use Rattle.std.proofs.lemmas.Bool.Decides.{nat_tests}
use Rattle.std.proofs.lemmas.List.{length-append, length-take-le, length-drop}
use Rattle.std.proofs.lemmas.Str.{utf8_valid_len_le}
use Rattle.bm_work.specs.Cuts.{left_after, left_of, last_text, ends_text}

some-if : (b : Bool) (p q : Option ℕ) (n : ℕ) → 0 < unwrap_or p n → 0 < unwrap_or q n → 0 < unwrap_or (if b then p else q) n
some-if true p q n hp hq = hp
some-if false p q n hp hq = hq

one : 0 < 1
one = omega arith

two : 0 < 2
two = omega arith

three : 0 < 3
three = omega arith

after_two : (bs : List ℕ) (n : ℕ) → 0 < n → 0 < unwrap_or (error_len_after_two bs) n
after_two bs n h =
    some-if (nat_lt (length bs) 3) None (if is_in_range 0x80 0xBF (slice_index bs 2) then (if nat_lt (length bs) 4 then None else Some 3) else Some 2) n h
    (some-if (is_in_range 0x80 0xBF (slice_index bs 2)) (if nat_lt (length bs) 4 then None else Some 3) (Some 2) n (some-if (nat_lt (length bs) 4) None (Some 3) n h three) two)

after_one : (bs : List ℕ) (n : ℕ) → 0 < n → 0 < unwrap_or (error_len_after_one bs) n
after_one bs n h =
    let follows : Bool = is_in_range (second_byte_min (slice_index bs 0)) (second_byte_max (slice_index bs 0)) (slice_index bs 1) in
    some-if (nat_lt (length bs) 2) None (if follows then error_len_after_two bs else Some 1) n h
    (some-if follows (error_len_after_two bs) (Some 1) n (after_two bs n h) one)

of_some : (bs : List ℕ) (n : ℕ) → 0 < n → 0 < unwrap_or (error_len_of_some bs) n
of_some bs n h = some-if (is_in_range 0xC2 0xF4 (slice_index bs 0)) (error_len_after_one bs) (Some 1) n (after_one bs n h) one

-- U+FFFD stands for one byte at least
invalid-some : (bs : List ℕ) → 0 < length bs → 0 < utf8_invalid_len bs
unfolding utf8_error_len
invalid-some bs h = some-if (length bs == 0) None (error_len_of_some bs) (length bs) h (of_some bs (length bs) h)

-- and takes three
within-length : (k : ℕ) (bs : List ℕ) → length (utf8_lossy_within k bs) ≤ 3 * length bs
within-length zero bs = omega arith
within-length (suc k) bs = go (utf8_valid_len bs == length bs) refl (within-length k (after_first_chunk bs))
  where
    go : (b : Bool) → (utf8_valid_len bs == length bs) ≡ b
        → length (utf8_lossy_within k (after_first_chunk bs)) ≤ 3 * length (after_first_chunk bs)
        → length (if b then bs else take (utf8_valid_len bs) bs ++ (replacement_bytes ++ utf8_lossy_within k (after_first_chunk bs))) ≤ 3 * length bs
    go true e deeper = omega arith
    go false e deeper =
        let most : utf8_valid_len bs ≤ length bs = utf8_valid_len_le bs in
        let less : utf8_valid_len bs < length bs = grind (arith, nat_tests) in
        let left : length (drop (utf8_valid_len bs) bs) ≡ length bs - utf8_valid_len bs = length-drop (utf8_valid_len bs) bs in
        let some : 0 < utf8_invalid_len (drop (utf8_valid_len bs) bs) = invalid-some (drop (utf8_valid_len bs) bs) (omega arith) in
        let rest : length (after_first_chunk bs) ≡ length bs - (utf8_valid_len bs + utf8_invalid_len (drop (utf8_valid_len bs) bs)) =
        length-drop (utf8_valid_len bs + utf8_invalid_len (drop (utf8_valid_len bs) bs)) bs in
        let marks : length replacement_bytes ≡ 3 = refl in
        let front : length (take (utf8_valid_len bs) bs) ≡ utf8_valid_len bs = length-take-le (utf8_valid_len bs) bs most in
        let whole : length (take (utf8_valid_len bs) bs ++ (replacement_bytes ++ utf8_lossy_within k (after_first_chunk bs)))
        ≡ length (take (utf8_valid_len bs) bs) + length (replacement_bytes ++ utf8_lossy_within k (after_first_chunk bs)) =
        length-append (take (utf8_valid_len bs) bs) (replacement_bytes ++ utf8_lossy_within k (after_first_chunk bs)) in
        let back : length (replacement_bytes ++ utf8_lossy_within k (after_first_chunk bs)) ≡ length replacement_bytes + length (utf8_lossy_within k (after_first_chunk bs)) =
        length-append replacement_bytes (utf8_lossy_within k (after_first_chunk bs)) in
        omega arith

pub lossy_length : (bs : List ℕ) → length (utf8_lossy bs) ≤ 3 * length bs
unfolding utf8_lossy
lossy_length bs = within-length (length bs) bs

pub lossy_short : (bs : List ℕ) → length bs ≤ 16384 → length (utf8_lossy bs) ≤ 65536
lossy_short bs h = omega (arith, lossy_length bs)

length-one : (line : List ℕ) (b : ℕ) → length (line ++ b ∷ []) ≡ length line + 1
length-one line b = length-append line (b ∷ [])

goes-on : (line : List ℕ) (b : ℕ) → ends_text line b ≡ false → length line < 16384 → length (line ++ b ∷ []) < 16384
goes-on line b plain h = go (b == 10) (length line + 1 == 16384) refl plain
  where
    go : (first second : Bool) → (length line + 1 == 16384) ≡ second → (first || second) ≡ false → length (line ++ b ∷ []) < 16384
    go true second is e = cc
    go false true is e = cc
    go false false is e = let one : length (line ++ b ∷ []) ≡ length line + 1 = length-one line b in grind (arith, nat_tests)

left-first : (line : List ℕ) (b : ℕ) (bs : List ℕ) (t : Bool) → ends_text line b ≡ t → length (left_after [] bs) < 16384
    → (length (line ++ b ∷ []) < 16384 → length (left_after (line ++ b ∷ []) bs) < 16384) → length line < 16384
    → length (if t then left_after [] bs else left_after (line ++ b ∷ []) bs) < 16384
left-first line b bs true e new more h = new
left-first line b bs false e new more h = more (goes-on line b e h)

left-after : (line bytes : List ℕ) → length line < 16384 → length (left_after line bytes) < 16384
left-after line [] h = h
left-after line (b ∷ bs) h =
    left-first line b bs (ends_text line b) refl (left-after [] bs (omega arith)) (λ less. left-after (line ++ b ∷ []) bs less) h

pub left_short : (bytes : List ℕ) → length (left_of bytes) < 16384
left_short bytes = left-after [] bytes (omega arith)

pub last_short : (bytes text : List ℕ) → length bytes < 16384 → last_text bytes ≡ Some text → length text ≤ 65536
last_short [] text h e = cc
last_short (b ∷ bs) text h e =
    let is : utf8_lossy (b ∷ bs) ≡ text = cc in
    let few : length (utf8_lossy (b ∷ bs)) ≤ 65536 = lossy_short (b ∷ bs) (omega arith) in
    subst (λ (t : List ℕ). length t ≤ 65536) is few
