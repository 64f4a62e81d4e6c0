-- Steps, where one comes after the others.
use Rattle.std.proofs.Common.{◌≡◌, refl, ap, List, [], ◌∷◌, ◌++◌}
use Rattle.bm_world.specs.declared.step.Step.{Step}
use Rattle.bm_world.specs.World.{World, stepped, answers_of, after_steps}

pub after_steps-push : (w : World) (ss : List Step) (s : Step) → after_steps w (ss ++ s ∷ []) ≡ (stepped (after_steps w ss) s).1
after_steps-push w [] s = refl
after_steps-push w (x ∷ xs) s = after_steps-push (stepped w x).1 xs s

pub answers_of-push : (w : World) (ss : List Step) (s : Step) → answers_of w (ss ++ s ∷ []) ≡ answers_of w ss ++ (stepped (after_steps w ss) s).0 ∷ []
answers_of-push w [] s = refl
answers_of-push w (x ∷ xs) s = ap (λ xs. (stepped w x).0 ∷ xs) (answers_of-push (stepped w x).1 xs s)
