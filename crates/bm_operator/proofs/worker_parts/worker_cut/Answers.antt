use Rattle.std.proofs.Common.{◌≡◌, ℕ, List, [], ◌∷◌, IfOk, codes, string_bytes, subst}
use Rattle.bm_operator.specs.Told.{shaped, of_name, of_word}
use Rattle.bm_operator.proofs.worker_parts.worker_cut.Goals as goal

pub returns : goal.returns
returns c =
    subst
    (λ (cause : List ℕ). IfOk c.shaped.result (λ s. string_bytes s ≡ shaped c.args.shape (record {
      kind = codes "worker_cut";
      fields =
          of_name (codes "worker ") (codes "worker") c.args.worker.now
          ∷ of_word (codes " cut, ") (codes "cause") cause
          ∷ [];
      tail = codes "";
    })))
    c.text.ensures c.shaped.ensures
