use denote.Exit.{unseen}
use denote.Param.Send.{Quiet-if, sendable}
use mir.Syntax.{of_param}
use Rattle.bm_master_threads.proofs.threads.run_threads.Goals as goal

pub scoped-left-requires : goal.scoped-left-requires
scoped-left-requires g c = let b = c.type_bounds in
    record {
      at = λ a. (
        (
          record { owned = b.send-Y.owned; leaving = λ k. Quiet-if (k (of_param 0)) unseen unseen (λ x w. tt) (λ x w. tt) },
          search (sendable, b.sync-Y),
          search (sendable, b.send-R),
          search (sendable, b.sync-R),
          record { owned = b.send-I.owned; leaving = λ k. Quiet-if (k (of_param 2)) unseen unseen (λ x w. tt) (λ x w. tt) },
          record { owned = b.send-O.owned; leaving = λ k. Quiet-if (k (of_param 3)) unseen unseen (λ x w. tt) (λ x w. tt) },
        ),
        (
          record { owned = b.send-Y.owned; leaving = λ k. Quiet-if (k (of_param 0)) unseen unseen (λ x w. tt) (λ x w. tt) },
          search (sendable, b.send-R),
          record { owned = b.send-I.owned; leaving = λ k. Quiet-if (k (of_param 2)) unseen unseen (λ x w. tt) (λ x w. tt) },
          record { owned = b.send-O.owned; leaving = λ k. Quiet-if (k (of_param 3)) unseen unseen (λ x w. tt) (λ x w. tt) },
          search (sendable, b.sync-Y),
          search (sendable, b.sync-R),
        ),
      );
    }
