use Rattle.std.proofs.Common.{◌∙◌, ◌∷◌, [], ap, sym, refl, map, lit<, List, ℕ, length, ◌<◌, arith}
use Rattle.std.specs.Prelude.{◌==◌}
use Rattle.std.specs.Borrow.{Bor}
use Rattle.std.specs.List.{slice_split}
use Rattle.std.proofs.lemmas.Str.Pattern.{strip_suffix_char}
use Rattle.bm_lines.proofs.Cuts.{lettered, parts_stripped, parts-nowhere}
use Rattle.bm_lines.proofs.shared.Shared.of.Goals as goal

pub returns-in_ok-new-in-Some : goal.returns-in_ok-new-in-Some
returns-in_ok-new-in-Some c =
    let some : 0 < length c.args.text.now = grind (arith, c.is_empty.ensures, c.if-is_empty.false) in
    let same = parts_stripped c.args.text.now c.strip_suffix.result c.args.text refl some (strip_suffix_char 10 c.args.text.now c.strip_suffix.result c.strip_suffix.ensures.cases (lit< tt)) in
    let lines = ap (map (lettered c.args.letter)) (ap (λ (t : Bor (List ℕ)). slice_split (λ b. b == 10) t.now) c.unwrap_or-parts.ensures ∙ same) in
    c.in_ok-new-in-Some.ensures.ok ∙ c.in_ok-of-in-Some.ensures ∙ lines

pub returns-in_ok-new-in-None : goal.returns-in_ok-new-in-None
returns-in_ok-new-in-None c =
    let some : 0 < length c.args.text.now = grind (arith, c.is_empty.ensures, c.if-is_empty.false) in
    let same = parts_stripped c.args.text.now c.strip_suffix.result c.args.text refl some (strip_suffix_char 10 c.args.text.now c.strip_suffix.result c.strip_suffix.ensures.cases (lit< tt)) in
    let one =
    ap (λ line. line ∷ []) (sym c.as_bytes.ensures.value)
    ∙ sym (parts-nowhere c.as_bytes.result.now c.in-None.ensures)
    ∙ ap (slice_split (λ b. b == 10)) c.as_bytes.ensures.value
    ∙ ap (λ (t : Bor (List ℕ)). slice_split (λ b. b == 10) t.now) c.unwrap_or-parts.ensures
    ∙ same in
    ap (λ line. line ∷ []) (c.in_ok-new-in-None.ensures.ok ∙ c.in_ok-of-in-None.ensures) ∙ ap (map (lettered c.args.letter)) one
