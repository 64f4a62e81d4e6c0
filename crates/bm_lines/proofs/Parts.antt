-- The content of the parts of a text.
use Rattle.std.proofs.Common.{◌≡◌, ◌∙◌, ap, sym, subst, ℕ, List, [], ◌∷◌, ◌++◌, length, map, if◌then◌else◌}
use Rattle.std.specs.Prelude.{◌==◌}
use Rattle.std.specs.Borrow.{Bor}
use Rattle.bm_lines.specs.declared.letter.Letter.{Letter}
use Rattle.bm_lines.specs.Lines.{Line, content_of}
use Rattle.bm_lines.specs.Contents.{IsContent}
use Rattle.bm_lines.proofs.Contents.{content-next}
use Rattle.bm_lines.proofs.Cuts.{lettered, lettered_now-next}

-- a part more
pub parts-next : (letter : Letter) (ps : List (Bor (List ℕ))) (p : Bor (List ℕ)) (text text' begins begins' seen : List ℕ) → seen ≡ text
    → IsContent (map {B = Line} (λ p. record { letter = letter; text = p.now }) ps) text begins
    → text' ≡ text ++ content_of (lettered letter p.now ∷ [])
    → begins' ≡ begins ++ (if length seen == 0 then [] else length seen ∷ [])
    → IsContent (map {B = Line} (λ p. record { letter = letter; text = p.now }) (ps ++ p ∷ [])) text' begins'
parts-next letter ps p text text' begins begins' seen same h grown noted =
    let next = content-next (map {B = Line} (λ p. record { letter = letter; text = p.now }) ps) (lettered letter p.now) text begins h in
    let noted' : begins' ≡ begins ++ (if length text == 0 then [] else length text ∷ []) = noted ∙ ap (λ t. begins ++ (if length t == 0 then [] else length t ∷ [])) same in
    subst (λ bs. IsContent (map {B = Line} (λ p. record { letter = letter; text = p.now }) (ps ++ p ∷ [])) text' bs) (sym noted')
    (subst (λ t. IsContent (map {B = Line} (λ p. record { letter = letter; text = p.now }) (ps ++ p ∷ [])) t (begins ++ (if length text == 0 then [] else length text ∷ []))) (sym grown)
    (subst (λ ls. IsContent ls (text ++ content_of (lettered letter p.now ∷ [])) (begins ++ (if length text == 0 then [] else length text ∷ []))) (sym (lettered_now-next letter ps p)) next))
