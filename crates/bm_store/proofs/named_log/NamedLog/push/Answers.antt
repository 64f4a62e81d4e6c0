use Rattle.std.proofs.Common.{◌≡◌, ◌∷◌, [], ◌++◌, ◌+◌, length, ap, subst, sym, ◌∙◌}
use Rattle.bm_store.proofs.Places.{IsPlacing-push}
use Rattle.bm_store.specs.Placing.{IsPlacing}
use Rattle.bm_store.proofs.named_log.NamedLog.push.Goals as goal

pub invariant_of-self-2 : goal.invariant_of-self-2
invariant_of-self-2 c =
    let items : c.push_reserved.new.self.items ≡ c.self.inside.blocks.items ++ (record { first = c.self.inside.lines; block = c.args.block }) ∷ [] =
    c.push_reserved.ensures.items ∙ ap (λ ps. ps ++ (record { first = c.self.inside.lines; block = c.args.block }) ∷ []) c.in_ok-reserve.ensures.items in
    let sum : c.in-Some.lines ≡ c.self.inside.lines + length c.args.block = c.in-Some.ensures.1 ∙ ap (λ n. c.self.inside.lines + n) c.len.ensures in
    subst (λ ps. IsPlacing ps c.in-Some.lines) (sym items)
    (IsPlacing-push c.self.inside.blocks.items (record { first = c.self.inside.lines; block = c.args.block }) c.in-Some.lines c.self.invariant sum)
