use Rattle.std.proofs.Common.{◌≡◌, ◌∙◌, ◌∷◌, ◌++◌, [], map, Some, ap, sym}
use Rattle.std.proofs.lemmas.List.{map-append}
use Rattle.bm_http.proofs.lane_viewers.keep.Goals as goal

pub returns-clause-kept : goal.returns-clause-kept
returns-clause-kept g c =
    let vs = c.args.viewers.now.items in
    let v = c.in-Some.viewer in
    let grown : c.push_reserved.new.self.items ≡ vs ++ v ∷ [] = c.push_reserved.ensures.items in
    ap (λ p. map (λ x. Some x) vs ++ p ∷ []) c.in-Some.is
    ∙ sym (map-append (λ x. Some x) vs (v ∷ []))
    ∙ ap (λ ys. map (λ x. Some x) ys) (sym grown)
