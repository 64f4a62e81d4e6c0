use Rattle.std.proofs.Common.{◌≡◌, ℕ, List, [], ◌∷◌, IfOk, codes, string_bytes, subst}
use Rattle.bm_operator.specs.declared.step_at.StepAt.{StepAt}
use Rattle.bm_operator.specs.Told.{Told, shaped, of_member, of_name, of_number}
use Rattle.bm_operator.proofs.build_parts.step_failed.Goals as goal

-- what is told, by the numbers of the build and of the log
abbrev told_of : List ℕ → List ℕ → StepAt → ℕ → ℕ → Told
told_of worker said step build log =
    record {
      kind = codes "step_failed";
      fields =
          of_number (codes "build ") (codes "build") build
          ∷ of_name (codes " step failed on ") (codes "worker") worker
          ∷ of_name (codes ", ") (codes "cause") said
          ∷ of_number (codes ", log ") (codes "log") log
          ∷ of_member (codes "place") step.place
          ∷ of_name (codes ": ") (codes "step") step.name.now
          ∷ [];
      tail = codes "";
    }

pub returns : goal.returns
returns c =
    subst
    (λ (log : ℕ). IfOk c.shaped.result (λ s. string_bytes s
    ≡ shaped c.args.shape (told_of c.args.worker.now c.args.said.now c.args.step c.args.build log)))
    c.number.ensures
    (subst
    (λ (build : ℕ). IfOk c.shaped.result (λ s. string_bytes s
    ≡ shaped c.args.shape (told_of c.args.worker.now c.args.said.now c.args.step build c.number.result)))
    c.from.ensures c.shaped.ensures)
