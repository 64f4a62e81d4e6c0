use Rattle.std.proofs.Common.{◌∙◌, ◌++◌, ◌∷◌, [], ap, sym, Some}
use Rattle.bm_lanes.specs.Dealt.{given_back}
use Rattle.bm_lanes.proofs.all_ends.whole.Goals as goal

pub returns-then-is_pushed : goal.returns-then-is_pushed
returns-then-is_pushed g c =
    let pool = c.in-Some-Some.pool in
    let viewer = c.in-Some-Some.viewer in
    ap (λ p. given_back p c.args.web_viewer) c.in-Some-Some.is-0
    ∙ ap (λ v. given_back (Some pool) v) c.in-Some-Some.is-1
    ∙ ap (λ vs. Some (vs ++ viewer ∷ [])) (sym c.into_viewers-viewers.ensures.all)
    ∙ ap Some (sym (c.is_pushed.ensures c.if-is_pushed.true))
