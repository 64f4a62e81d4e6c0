-- What is read of a script, and how much of it is left.
use Rattle.std.proofs.Common.{◌≡◌, sym, ◌∙◌, ap, subst, ℕ, ◌+◌, ◌<◌, ◌≤◌, List, ◌∷◌, ◌++◌, length, take, Option, Some, None, IfSome, arith, length-append, append-nil, Bor}
use Rattle.std.specs.Io.KnownBytes.{Consumes}
use Rattle.std.proofs.KnownBytes.{Consumes-trans}
use Rattle.std.proofs.lemmas.List.{take-take, take-append-le}
use Rattle.std.specs.Option.{option_map_or}

-- the bytes that are left, and one more where there is a line
abbrev pub left_over : Option (Bor (List ℕ)) → ℕ
left_over left = option_map_or (λ rest. length rest.now + 1) left 0

pub cut_shortens : (line text : List ℕ) (left : Option (Bor (List ℕ))) → IfSome left (λ rest. text ≡ line ++ 10 ∷ rest.now) → left_over left < length text + 1
cut_shortens line text None cut = omega arith
cut_shortens line text (Some rest) cut = omega (arith, ap length cut, length-append line (10 ∷ rest.now))

-- a read of no bytes
pub reads-none : (a b c : Option (List ℕ)) (script piece : List ℕ) (n : ℕ) → n ≡ 0 → Consumes a b script → Consumes b c (take n piece) → Consumes a c script
reads-none a b c script piece n none before read =
    subst (Consumes a c) (append-nil script) (Consumes-trans a b c script _ before (subst (λ k. Consumes b c (take k piece)) none read))

-- the front of what a read filled
pub front-of : (n len : ℕ) (xs ys rest : List ℕ) → n ≤ length xs → n ≤ len → ys ≡ take len (xs ++ rest) → take n xs ≡ take n ys
front-of n len xs ys rest fits few is =
    sym (ap (take n) is ∙ take-take n len (xs ++ rest) few ∙ take-append-le n xs rest fits)
