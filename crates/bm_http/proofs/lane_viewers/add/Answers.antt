use Rattle.std.proofs.Common.{rules, ◌≡◌, ◌∙◌, ◌∷◌, ◌++◌, [], Some, ap, cond, true}
use Rattle.std.specs.Result.{is_ok}
use Rattle.bm_http.proofs.lane_viewers.add.Goals as goal

pub returns-clause-added : goal.returns-clause-added
returns-clause-added g c =
    let places = c.args.places.now.items in
    let ok : is_ok c.push.result ≡ true = search rules in
    c.push.ensures.items ∙ ap (λ b. cond b (places ++ Some c.args.viewer ∷ []) places) ok
