-- How much is left to tell of a long answer.
use Rattle.std.proofs.Common.{◌≡◌, ◌≤◌, ◌<◌, ◌+◌, ◌-◌, ◌/◌, ◌%◌, ℕ, Bool, true, false, cond, List, [], ◌∷◌, ◌++◌, length, take, drop, Option, sym, ap, ◌∙◌, arith, append_assoc, length-append, length-drop, nat_lt, codes, decimal}
use Rattle.std.specs.Char.{digit_char}
use Rattle.std.proofs.lemmas.List.{length-take}
use Rattle.json.specs.Print.{escape, escape_byte, escape_letter, quoted}
use Rattle.bm_lines.specs.Lines.{Line, content_of, letter_code}
use Rattle.bm_session.specs.Trace.{slice}
use Rattle.bm_http.specs.Bodies.{contents_text}
use Rattle.bm_http.specs.LongAnswers.{AreLeft, held, left_text}

-- Texts with a byte at least

escape_byte-some : (b : ℕ) → 0 < length (escape_byte b)
unfolding escape_byte
escape_byte-some b = go (nat_lt 0 (escape_letter b)) (nat_lt b 32)
  where
    go : (short low : Bool) → 0 < length (cond short (92 ∷ escape_letter b ∷ []) (cond low (92 ∷ 117 ∷ 48 ∷ 48 ∷ digit_char (b / 16) ∷ digit_char (b % 16) ∷ []) (b ∷ [])))
    go true low = omega arith
    go false true = omega arith
    go false false = omega arith

pub escape-some : (text : List ℕ) → 0 < length text → 0 < length (escape text)
escape-some [] l = absurd (omega arith)
escape-some (b ∷ bs) l = omega (arith, length-append (escape_byte b) (escape bs), escape_byte-some b)

content-some : (ls : List Line) → 0 < length ls → 0 < length (content_of ls)
content-some [] l = absurd (omega arith)
content-some (x ∷ xs) l = omega (arith, length-append (letter_code x.letter ∷ (x.text ++ 10 ∷ [])) (content_of xs))

-- a piece with a byte shortens what is left
pub shortens : (old piece new : List ℕ) → old ≡ piece ++ new → 0 < length piece → length new < length old
shortens old piece new e some = omega (arith, ap length e, length-append piece new, some)

-- Lines that are left

slice-full : (ls : List Line) (at n : ℕ) → at + n ≤ length ls → length (slice ls at n) ≡ n
slice-full ls at n there = omega (arith, length-take n (drop at ls), length-drop at ls)

pub left-at-first : (ls : List Line) (at n : ℕ) → at + n ≤ length ls → AreLeft ls at (at + n) 0
left-at-first ls at n there = (omega arith, there, λ l. content-some (slice ls at (at + n - at)) (omega (arith, slice-full ls at (at + n - at) (omega arith))))

-- while lines are left, something is
pub left-lines : (front : Option (List ℕ)) (ls : List Line) (at end skip : ℕ) (back : Option (List ℕ)) → AreLeft ls at end skip → at < end → 0 < length (left_text front ls at end skip back)
left-lines front ls at end skip back h l =
    let text : List ℕ = content_of (slice ls at (end - at)) in
    let more : skip < length text = h.2 l in
    let some : 0 < length (drop skip text) = omega (arith, length-drop skip text) in
    omega (arith, length-append (held front) (escape (drop skip text) ++ held back), length-append (escape (drop skip text)) (held back), escape-some (drop skip text) some)

-- The body without lines: what stands before them has 26 bytes

pub front-some : (id first : ℕ) → 0 < length (take 26 (contents_text id first []))
front-some id first = omega arith

pub back-some : (id first : ℕ) → 0 < length (drop 26 (contents_text id first []))
back-some id first = omega arith

abbrev with-lines : List ℕ → List ℕ → List ℕ
with-lines content more = codes "{\"logchunks\":[{\"content\":" ++ quoted content ++ more

between : (content more : List ℕ) → take 26 (with-lines [] more) ++ (escape content ++ drop 26 (with-lines [] more)) ≡ with-lines content more
between content more = ap (λ t. codes "{\"logchunks\":[{\"content\":" ++ (34 ∷ t)) (sym (append_assoc (escape content) (34 ∷ []) more))

-- what follows the lines, as one text
joined-behind : (p a b c d e : List ℕ) → ((((p ++ a) ++ b) ++ c) ++ d) ++ e ≡ p ++ ((((a ++ b) ++ c) ++ d) ++ e)
joined-behind p a b c d e =
    ap (λ t. ((t ++ c) ++ d) ++ e) (append_assoc p a b)
    ∙ ap (λ t. (t ++ d) ++ e) (append_assoc p (a ++ b) c)
    ∙ ap (λ t. t ++ e) (append_assoc p ((a ++ b) ++ c) d)
    ∙ append_assoc p (((a ++ b) ++ c) ++ d) e

pub body-of : (id first : ℕ) (content : List ℕ) → take 26 (contents_text id first []) ++ (escape content ++ drop 26 (contents_text id first [])) ≡ contents_text id first content
body-of id first content =
    let a : List ℕ = codes ",\"firstline\":" in
    let b : List ℕ = codes ",\"logid\":" in
    let c : List ℕ = codes "}],\"meta\":{}}" in
    let parts = λ (t : List ℕ). joined-behind (codes "{\"logchunks\":[{\"content\":" ++ quoted t) a (decimal first) b (decimal id) c in
    ap (λ t. take 26 t ++ (escape content ++ drop 26 t)) (parts [])
    ∙ between content ((((a ++ decimal first) ++ b) ++ decimal id) ++ c)
    ∙ sym (parts content)
