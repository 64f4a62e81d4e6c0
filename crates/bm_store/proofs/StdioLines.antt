-- How many lines the logs `stdio` have together.
use Rattle.std.proofs.Common.{◌≡◌, refl, sym, ◌∙◌, ap, ℕ, suc, ◌+◌, ◌-◌, ◌^◌, ◌<◌, List, [], ◌∷◌, ◌++◌, length, take, get_or, arith}
use Rattle.std.specs.Prelude.{min, fold}
use Rattle.std.specs.List.{sum_by}
use Rattle.std.proofs.Math.Seq.{take-suc}
use Rattle.std.proofs.lemmas.List.Sums.{sum_by-append}
use Rattle.bm_lines.specs.Names.{stdio}
use Rattle.bm_session.specs.Trace.{joined}
use Rattle.bm_store.specs.Book.{Logs, stdio_lines_in}
use Rattle.bm_store.specs.Kept.{Kept, blocks_of, logs_in}

abbrev pub stdio_count : Kept → ℕ
stdio_count c = length (joined (blocks_of c.named stdio))

counted-from : (n : ℕ) (cs : List Kept) → fold (λ m (l : Logs). m + length (joined (l.blocks stdio))) n (logs_in cs) ≡ fold (λ m c. m + stdio_count c) n cs
counted-from n [] = refl
counted-from n (c ∷ cs) = counted-from (n + stdio_count c) cs

counted-logs : (cs : List Kept) → sum_by (λ (l : Logs). length (joined (l.blocks stdio))) (logs_in cs) ≡ sum_by stdio_count cs
counted-logs cs = counted-from 0 cs

capped : (sum n most : ℕ) → min (min sum most + n) most ≡ min (sum + n) most
capped sum n most = grind arith

-- one command more
pub counted-more : (cs : List Kept) (c d : Kept) (i before n after : ℕ) → i < length cs → c ≡ get_or cs i d → n ≡ stdio_count c
    → before ≡ min (sum_by stdio_count (take i cs)) (2 ^ 64 - 1) → after ≡ min (before + n) (2 ^ 64 - 1) → after ≡ min (sum_by stdio_count (take (i + 1) cs)) (2 ^ 64 - 1)
counted-more cs c d i before n after inside at size was is =
    let next : i + 1 ≡ suc i = omega arith in
    let more : take (i + 1) cs ≡ take i cs ++ c ∷ [] = ap (λ m. take m cs) next ∙ take-suc cs i d inside ∙ ap (λ x. take i cs ++ x ∷ []) (sym at) in
    let sum : sum_by stdio_count (take (i + 1) cs) ≡ sum_by stdio_count (take i cs) + n = ap (sum_by stdio_count) more ∙ sum_by-append stdio_count (take i cs) (c ∷ []) ∙ omega (arith, size) in
    is ∙ ap (λ m. min (m + n) (2 ^ 64 - 1)) was ∙ capped (sum_by stdio_count (take i cs)) n (2 ^ 64 - 1) ∙ ap (λ m. min m (2 ^ 64 - 1)) (sym sum)

-- all commands
pub counted-all : (cs all : List Kept) (lines : ℕ) → lines ≡ min (sum_by stdio_count cs) (2 ^ 64 - 1) → cs ≡ all → lines ≡ stdio_lines_in (logs_in all)
counted-all cs all lines is same = is ∙ ap (λ xs. min (sum_by stdio_count xs) (2 ^ 64 - 1)) same ∙ ap (λ n. min n (2 ^ 64 - 1)) (sym (counted-logs all))
