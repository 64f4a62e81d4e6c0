-- A spelling is of one tree, and begins no other.
use Rattle.std.proofs.Common.{◌≡◌, ℕ, max, List, [], ◌++◌, Ok, sym, ap, subst, ◌∙◌, arith}
use Rattle.std.proofs.lemmas.List.{append-nil}
use Rattle.bm_value.specs.Tree.{Tree, depth}
use Rattle.bm_value.specs.Reading.{Answer, value_at}
use Rattle.bm_value.specs.Spelling.{Spells}
use Rattle.bm_value.specs.Laws.{SpelledOnce, NoneBeginsAnother}
use Rattle.bm_value.proofs.Completeness.{value_again}

abbrev answered : Tree → List ℕ → Answer Tree
answered t rest = Ok (t, rest)

both : (bytes more : List ℕ) (t u : Tree) → Spells bytes t → Spells (bytes ++ more) u → answered t more ≡ answered u []
both bytes more t u s r =
    let d = max (depth t) (depth u) in
    sym (value_again t d bytes more s (omega arith)) ∙ ap (value_at d) (sym (append-nil (bytes ++ more))) ∙ value_again u d (bytes ++ more) [] r (omega arith)

pub spelled_once : SpelledOnce
spelled_once bytes t u s r =
    let e = both bytes [] t u s (subst (λ b. Spells b u) (sym (append-nil bytes)) r) in
    let p : (t, []) ≡ (u, []) = cc in
    ap (λ (x : Tree × List ℕ). x.0) p

pub none_begins_another : NoneBeginsAnother
none_begins_another bytes more t u s r =
    let e = both bytes more t u s r in
    let p : (t, more) ≡ (u, []) = cc in
    ap (λ (x : Tree × List ℕ). x.1) p
