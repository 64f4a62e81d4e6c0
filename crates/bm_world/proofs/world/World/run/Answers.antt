use Rattle.std.proofs.Common.{◌∙◌, sym, ap, List, [], ◌∷◌, ◌++◌}
use Rattle.bm_world.specs.declared.answer.Answer.{Answer}
use Rattle.bm_world.specs.World.{World, start, stepped, answers_of}
use Rattle.bm_world.proofs.Steps.{after_steps-push, answers_of-push}
use Rattle.bm_world.proofs.world.World.run.Goals as goal

pub loop-step-preserved : goal.loop-step-preserved
loop-step-preserved c =
    let yielded = c.loop-step.yielded in
    let s = c.in-Some.step in
    let before = c.loop-step.invariant in
    record {
      world = c.in-Ok.ensures.after ∙ ap (λ (w : World). (stepped w s).1) before.world ∙ sym (after_steps-push (start c.args.capacity) yielded s);
      answered = c.in_ok-push-in-Ok.ensures.items
          ∙ ap (λ (xs : List Answer). xs ++ c.in-Ok.answer ∷ []) before.answered
          ∙ ap (λ (a : Answer). answers_of (start c.args.capacity) yielded ++ a ∷ []) (c.in-Ok.ensures.answer ∙ ap (λ (w : World). (stepped w s).0) before.world)
          ∙ sym (answers_of-push (start c.args.capacity) yielded s);
    }
