-- The content of lines, and how it lies in memory.
use Rattle.std.proofs.Common.{◌≡◌, refl, sym, ◌∙◌, ap, subst, ℕ, zero, suc, ◌+◌, ◌-◌, ◌≤◌, ◌<◌, List, [], ◌∷◌, ◌++◌, length, map, take, drop, get_or, arith, length-append, append_assoc, if◌then◌else◌, Bool, true, false, cond}
use Rattle.std.specs.Prelude.{◌==◌, IsCharBoundary}
use Rattle.std.proofs.lemmas.List.{take_all, append-nil, take-append-drop}
use Rattle.std.proofs.lemmas.List.Concat.{flat_map-append}
use Rattle.std.proofs.Math.Seq.{drop-append_seam, take-append_seam, get_or-append_seam}
use Rattle.std.proofs.lemmas.Bool.Decides.{nat_tests}
use Rattle.std.proofs.lemmas.Str.{IsCharBoundary-end, IsCharBoundary-before_ascii}
use Rattle.bm_lines.specs.Lines.{Line, content_of, letter_code}
use Rattle.bm_lines.specs.declared.letter.Letter.{Letter}
use Rattle.bm_lines.specs.declared.letter.Letter.TheVariants.{O, E, H}
use Rattle.bm_lines.specs.Contents.{size, begins_from, IsContent, letter_of, line_of, lines_from, lines_in}

pub content_of-append : (xs ys : List Line) → content_of (xs ++ ys) ≡ content_of xs ++ content_of ys
content_of-append xs ys = flat_map-append (λ (l : Line). letter_code l.letter ∷ (l.text ++ 10 ∷ [])) xs ys

-- the content of one line
abbrev piece : Line → List ℕ
piece l = letter_code l.letter ∷ (l.text ++ 10 ∷ [])

length-piece : (l : Line) → length (piece l) ≡ size l
length-piece l = omega (arith, length-append l.text (10 ∷ []))

pub length-cons : (l : Line) (ls : List Line) → length (content_of (l ∷ ls)) ≡ size l + length (content_of ls)
length-cons l ls = omega (arith, length-append (piece l) (content_of ls), length-piece l)

begins-append : (at : ℕ) (xs ys : List Line) → begins_from at (xs ++ ys) ≡ begins_from at xs ++ begins_from (at + length (content_of xs)) ys
begins-append at [] ys = let e : at ≡ at + 0 = omega arith in ap (λ n. begins_from n ys) e
begins-append at (x ∷ xs) ys =
    let e : (at + size x) + length (content_of xs) ≡ at + length (content_of (x ∷ xs)) = omega (arith, length-cons x xs) in
    ap (λ l. at ∷ l) (begins-append (at + size x) xs ys ∙ ap (λ n. begins_from (at + size x) xs ++ begins_from n ys) e)

begins-shift : (k at : ℕ) (ls : List Line) → begins_from (k + at) ls ≡ map (λ n. k + n) (begins_from at ls)
begins-shift k at [] = refl
begins-shift k at (l ∷ ls) =
    let e : (k + at) + size l ≡ k + (at + size l) = omega arith in
    ap (λ ns. (k + at) ∷ ns) (ap (λ n. begins_from n ls) e ∙ begins-shift k (at + size l) ls)

begins-length : (at : ℕ) (ls : List Line) → length (begins_from at ls) ≡ length ls
begins-length at [] = refl
begins-length at (l ∷ ls) = let e = begins-length (at + size l) ls in omega (arith, e)

begins-at : (at i : ℕ) (ls : List Line) → i < length ls → get_or (begins_from at ls) i 0 ≡ at + length (content_of (take i ls))
begins-at at i [] l = absurd (omega arith)
begins-at at zero (x ∷ xs) l = omega arith
begins-at at (suc i) (x ∷ xs) l =
    let e = begins-at (at + size x) i xs (omega arith) in
    omega (arith, e, length-cons x (take i xs))

-- no line begins behind the end
begins-inside : (at : ℕ) (ls : List Line) (k d : ℕ) → k < length (begins_from at ls) → get_or (begins_from at ls) k d ≤ at + length (content_of ls)
begins-inside at [] k d l = absurd (omega arith)
begins-inside at (x ∷ xs) zero d l = omega arith
begins-inside at (x ∷ xs) (suc k) d l =
    let e = begins-inside (at + size x) xs k d (omega arith) in
    omega (arith, e, length-cons x xs)

letter-back : (x : Letter) → letter_of (letter_code x) ≡ x
letter-back O = refl
letter-back E = refl
letter-back H = refl

line-back : (l : Line) → line_of (piece l) ≡ l
line-back l =
    let e : length (l.text ++ 10 ∷ []) - 1 ≡ length l.text = omega (arith, length-append l.text (10 ∷ [])) in
    ap (λ x. record { letter = x; text = take (length (l.text ++ 10 ∷ []) - 1) (l.text ++ 10 ∷ []) }) (letter-back l.letter)
    ∙ ap (λ t. record { letter = l.letter; text = t }) (ap (λ n. take n (l.text ++ 10 ∷ [])) e ∙ take-append_seam l.text (10 ∷ []))

-- lines are found again in their content
lines-back : (at : ℕ) (l : Line) (ls : List Line) → lines_from at (begins_from (at + size l) ls) (content_of (l ∷ ls)) ≡ l ∷ ls
lines-back at l [] = ap (λ t. line_of t ∷ []) (append-nil (piece l)) ∙ ap (λ x. x ∷ []) (line-back l)
lines-back at l (m ∷ ms) =
    let e : (at + size l) - at ≡ length (piece l) = omega (arith, length-piece l) in
    ap (λ n. line_of (take n (content_of (l ∷ (m ∷ ms)))) ∷ lines_from (at + size l) (begins_from ((at + size l) + size m) ms) (drop n (content_of (l ∷ (m ∷ ms))))) e
    ∙ ap (λ t. line_of t ∷ lines_from (at + size l) (begins_from ((at + size l) + size m) ms) (drop (length (piece l)) (content_of (l ∷ (m ∷ ms))))) (take-append_seam (piece l) (content_of (m ∷ ms)))
    ∙ ap (λ t. line_of (piece l) ∷ lines_from (at + size l) (begins_from ((at + size l) + size m) ms) t) (drop-append_seam (piece l) (content_of (m ∷ ms)))
    ∙ ap (λ x. x ∷ lines_from (at + size l) (begins_from ((at + size l) + size m) ms) (content_of (m ∷ ms))) (line-back l)
    ∙ ap (λ xs. l ∷ xs) (lines-back (at + size l) m ms)

-- the lines of a content of some lines
pub lines-of-content : (ls : List Line) (text begins : List ℕ) → 0 < length ls → IsContent ls text begins → lines_in begins text ≡ ls
lines-of-content [] text begins some h = absurd (omega arith)
lines-of-content (l ∷ ls) text begins some h =
    let e : size l ≡ 0 + size l = omega arith in
    ap (λ bs. lines_in bs text) h.places
    ∙ ap (λ t. lines_in (begins_from (size l) ls) t) h.exact
    ∙ ap (λ n. lines_from 0 (begins_from n ls) (content_of (l ∷ ls))) e
    ∙ lines-back 0 l ls

some-lines : (at : ℕ) (begins text : List ℕ) → 0 < length (lines_from at begins text)
some-lines at [] text = omega arith
some-lines at (b ∷ bs) text = omega arith

pub has-lines : (begins text : List ℕ) → 0 < length (lines_in begins text)
has-lines begins text = some-lines 0 begins text

-- how many there are
pub counted : (begins text : List ℕ) → length begins + 1 ≡ length (lines_in begins text)
counted begins text = go 0 begins text
  where
    go : (at : ℕ) (begins text : List ℕ) → length begins + 1 ≡ length (lines_from at begins text)
    go at [] text = refl
    go at (b ∷ bs) text = let e = go b bs (drop (b - at) text) in omega (arith, e)

-- where a line begins behind the first
pub begins-place : (ls : List Line) (text begins : List ℕ) (number : ℕ) → IsContent ls text begins → 0 < number → number < length ls → get_or begins (number - 1) 0 ≡ length (content_of (take number ls))
begins-place [] text begins number h some inside = absurd (omega arith)
begins-place (l ∷ ls) text begins zero h some inside = absurd (omega arith)
begins-place (l ∷ ls) text begins (suc n) h some inside =
    let e = begins-at (size l) n ls (omega arith) in
    let m : suc n - 1 ≡ n = omega arith in
    ap (λ bs. get_or bs (suc n - 1) 0) h.places ∙ ap (λ k. get_or (begins_from (size l) ls) k 0) m ∙ omega (arith, e, length-cons l (take n ls))

pub end-place : (ls : List Line) (text begins : List ℕ) (number : ℕ) → IsContent ls text begins → length ls ≤ number → length text ≡ length (content_of (take number ls))
end-place ls text begins number h past = ap length h.exact ∙ ap (λ xs. length (content_of xs)) (sym (take_all number ls past))

-- a text may be cut where a line begins or the last one ends
pub boundary-of : (xs : List ℕ) (ls : List Line) → IsCharBoundary (xs ++ content_of ls) (length xs)
boundary-of xs [] = subst (λ t. IsCharBoundary t (length xs)) (sym (append-nil xs)) (IsCharBoundary-end xs)
boundary-of xs (l ∷ ls) =
    let head : get_or (xs ++ content_of (l ∷ ls)) (length xs) 0 ≡ letter_code l.letter = get_or-append_seam xs (letter_code l.letter) ((l.text ++ 10 ∷ []) ++ content_of ls) 0 in
    let size = length-append xs (content_of (l ∷ ls)) in
    let some = length-cons l ls in
    IsCharBoundary-before_ascii (xs ++ content_of (l ∷ ls)) (length xs) (omega (arith, size, some)) (subst (λ c. c < 128) (sym head) (small l.letter))
  where
    small : (x : Letter) → letter_code x < 128
    small O = omega arith
    small E = omega arith
    small H = omega arith

split-at : (i : ℕ) (ls : List Line) → content_of ls ≡ content_of (take i ls) ++ content_of (drop i ls)
split-at i ls = ap content_of (sym (take-append-drop i ls)) ∙ content_of-append (take i ls) (drop i ls)

pub boundary : (ls : List Line) (i : ℕ) → IsCharBoundary (content_of ls) (length (content_of (take i ls)))
boundary ls i = subst (λ t. IsCharBoundary t (length (content_of (take i ls)))) (sym (split-at i ls)) (boundary-of (content_of (take i ls)) (drop i ls))

-- a line more at the end
pub content-next : (ls : List Line) (l : Line) (text begins : List ℕ) → IsContent ls text begins
    → IsContent (ls ++ l ∷ []) (text ++ content_of (l ∷ [])) (begins ++ (if length text == 0 then [] else length text ∷ []))
content-next [] l text begins h =
    let none : text ≡ [] = h.exact in
    record {
      exact = ap (λ t. t ++ content_of (l ∷ [])) none;
      places = ap (λ bs. bs ++ (if length text == 0 then [] else length text ∷ [])) h.places ∙ ap (λ t. if length t == 0 then [] else length t ∷ []) none;
    }
content-next (x ∷ xs) l text begins h = go (length text == 0) refl
  where
    total : length text ≡ size x + length (content_of xs)
    total = ap length h.exact ∙ length-cons x xs

    go : (b : Bool) → (length text == 0) ≡ b → IsContent (x ∷ xs ++ l ∷ []) (text ++ content_of (l ∷ [])) (begins ++ cond b [] (length text ∷ []))
    go true e =
        let t = total in
        let none : length text ≡ 0 = grind (arith, nat_tests) in
        absurd (omega arith)
    go false e = record {
      exact = ap (λ t. t ++ content_of (l ∷ [])) h.exact ∙ sym (content_of-append (x ∷ xs) (l ∷ []));
      places = ap (λ bs. bs ++ length text ∷ []) h.places ∙ ap (λ m. begins_from (size x) xs ++ m ∷ []) total ∙ sym (begins-append (size x) xs (l ∷ []));
    }

-- lines of another content at the end
pub content-append : (xs ys : List Line) (text text' begins begins' : List ℕ) → 0 < length xs → 0 < length ys → IsContent xs text begins → IsContent ys text' begins'
    → IsContent (xs ++ ys) (text ++ text') (begins ++ length text ∷ map (λ n. length text + n) begins')
content-append [] ys text text' begins begins' some some' h h' = absurd (omega arith)
content-append (x ∷ xs) [] text text' begins begins' some some' h h' = absurd (omega arith)
content-append (x ∷ xs) (y ∷ ys) text text' begins begins' some some' h h' =
    let t : length text ≡ size x + length (content_of xs) = ap length h.exact ∙ length-cons x xs in
    record {
      exact = ap (λ t. t ++ text') h.exact ∙ ap (λ t. content_of (x ∷ xs) ++ t) h'.exact ∙ sym (content_of-append (x ∷ xs) (y ∷ ys));
      places =
          ap (λ bs. bs ++ length text ∷ map (λ n. length text + n) begins') h.places
          ∙ ap (λ bs. begins_from (size x) xs ++ length text ∷ map (λ n. length text + n) bs) h'.places
          ∙ ap (λ bs. begins_from (size x) xs ++ length text ∷ bs) (sym (begins-shift (length text) (size y) ys))
          ∙ ap (λ n. begins_from (size x) xs ++ n ∷ begins_from (n + size y) ys) t
          ∙ sym (begins-append (size x) xs (y ∷ ys));
    }

-- no later line begins behind the end
pub inside-text : (ls : List Line) (text begins : List ℕ) (k d : ℕ) → IsContent ls text begins → k < length begins → get_or begins k d ≤ length text
inside-text [] text begins k d h inside = let e = ap length h.places in absurd (omega arith)
inside-text (x ∷ xs) text begins k d h inside =
    let t : length text ≡ size x + length (content_of xs) = ap length h.exact ∙ length-cons x xs in
    let same : length begins ≡ length (begins_from (size x) xs) = ap length h.places in
    let e = begins-inside (size x) xs k d (omega arith) in
    subst (λ bs. get_or bs k d ≤ length text) (sym h.places) (omega arith)

take-nothing : {A : Type 0} (n : ℕ) → take {A = A} n [] ≡ []
take-nothing zero = refl
take-nothing (suc n) = refl

take-take : {A : Type 0} (i j : ℕ) (xs : List A) → i ≤ j → take i (take j xs) ≡ take i xs
take-take zero j [] h = ap (take zero) (take-nothing j)
take-take zero zero (x ∷ xs) h = refl
take-take zero (suc j) (x ∷ xs) h = refl
take-take (suc i) zero xs h = absurd (omega arith)
take-take (suc i) (suc j) [] h = refl
take-take (suc i) (suc j) (x ∷ xs) h = ap (λ ys. x ∷ ys) (take-take i j xs (omega arith))

drop-take : {A : Type 0} (i j : ℕ) (xs : List A) → i ≤ j → drop i (take j xs) ≡ take (j - i) (drop i xs)
drop-take zero j xs h = let e : j ≡ j - 0 = omega arith in ap (λ n. take n xs) e
drop-take (suc i) zero xs h = absurd (omega arith)
drop-take (suc i) (suc j) [] h = sym (take-nothing (suc j - suc i))
drop-take (suc i) (suc j) (x ∷ xs) h = let e : j - i ≡ suc j - suc i = omega arith in drop-take i j xs (omega arith) ∙ ap (λ n. take n (drop i xs)) e

-- the content of the first lines, up to a later place, and that of the lines between
parts : (ls : List Line) (from to : ℕ) → from ≤ to → content_of (take to ls) ≡ content_of (take from ls) ++ content_of (take (to - from) (drop from ls))
parts ls from to h =
    split-at from (take to ls)
    ∙ ap (λ xs. content_of xs ++ content_of (drop from (take to ls))) (take-take from to ls h)
    ∙ ap (λ xs. content_of (take from ls) ++ content_of xs) (drop-take from to ls h)

-- what the lines from one place up to another have of the content
pub place-le : (ls : List Line) (from to : ℕ) → from ≤ to → length (content_of (take from ls)) ≤ length (content_of (take to ls))
place-le ls from to h =
    let e = ap length (parts ls from to h) in
    let n = length-append (content_of (take from ls)) (content_of (take (to - from) (drop from ls))) in
    omega (arith, e, n)

pub slice-content : (ls : List Line) (from to : ℕ) → from ≤ to
    → take (length (content_of (take to ls)) - length (content_of (take from ls))) (drop (length (content_of (take from ls))) (content_of ls)) ≡ content_of (take (to - from) (drop from ls))
slice-content ls from to h =
    let before = content_of (take from ls) in
    let wanted = content_of (take (to - from) (drop from ls)) in
    let rest = content_of (drop to ls) in
    let whole : content_of ls ≡ before ++ (wanted ++ rest) =
    split-at to ls ∙ ap (λ t. t ++ rest) (parts ls from to h) ∙ append_assoc before wanted rest in
    let e = ap length (parts ls from to h) in
    let n : length (before ++ wanted) ≡ length before + length wanted = length-append before wanted in
    let much : length (content_of (take to ls)) - length before ≡ length wanted = omega (arith, e, n) in
    ap (λ k. take k (drop (length before) (content_of ls))) much
    ∙ ap (λ t. take (length wanted) (drop (length before) t)) whole
    ∙ ap (take (length wanted)) (drop-append_seam before (wanted ++ rest))
    ∙ take-append_seam wanted rest

-- in memory lines are those that the text is the content of
pub content-in : (ls : List Line) (text begins : List ℕ) → 0 < length ls → IsContent ls text begins → IsContent (lines_in begins text) text begins
content-in ls text begins some h = subst (λ xs. IsContent xs text begins) (sym (lines-of-content ls text begins some h)) h

-- what two contents become, one behind the other
appended : (begins begins' text text' bs t : List ℕ) → IsContent (lines_in begins text) text begins → IsContent (lines_in begins' text') text' begins'
    → bs ≡ begins ++ length text ∷ map (λ n. length text + n) begins' → t ≡ text ++ text'
    → IsContent (lines_in begins text ++ lines_in begins' text') t bs
appended begins begins' text text' bs t h h' noted grown =
    subst (λ bs. IsContent (lines_in begins text ++ lines_in begins' text') t bs) (sym noted)
    (subst (λ t. IsContent (lines_in begins text ++ lines_in begins' text') t (begins ++ length text ∷ map (λ n. length text + n) begins')) (sym grown)
    (content-append (lines_in begins text) (lines_in begins' text') text text' begins begins' (has-lines begins text) (has-lines begins' text') h h'))

some-appended : (begins begins' text text' : List ℕ) → 0 < length (lines_in begins text ++ lines_in begins' text')
some-appended begins begins' text text' =
    let some = has-lines begins text in
    let e = length-append (lines_in begins text) (lines_in begins' text') in
    omega (arith, e, some)

pub appended-in : (begins begins' text text' bs t : List ℕ) → IsContent (lines_in begins text) text begins → IsContent (lines_in begins' text') text' begins'
    → bs ≡ begins ++ length text ∷ map (λ n. length text + n) begins' → t ≡ text ++ text' → IsContent (lines_in bs t) t bs
appended-in begins begins' text text' bs t h h' noted grown =
    content-in (lines_in begins text ++ lines_in begins' text') t bs (some-appended begins begins' text text') (appended begins begins' text text' bs t h h' noted grown)

pub lines-of-appended : (begins begins' text text' bs t : List ℕ) → IsContent (lines_in begins text) text begins → IsContent (lines_in begins' text') text' begins'
    → bs ≡ begins ++ length text ∷ map (λ n. length text + n) begins' → t ≡ text ++ text' → lines_in bs t ≡ lines_in begins text ++ lines_in begins' text'
lines-of-appended begins begins' text text' bs t h h' noted grown =
    lines-of-content (lines_in begins text ++ lines_in begins' text') t bs (some-appended begins begins' text text') (appended begins begins' text text' bs t h h' noted grown)
