use Rattle.std.proofs.Common.{◌∙◌, ap, sym, nat_lt, arith}
use Rattle.std.proofs.lemmas.Bool.{le-ltb}
use Rattle.bm_board.specs.Board.{has_build}
use Rattle.bm_board.proofs.Waiting.{has_none, has_some}
use Rattle.bm_board.proofs.board.Board.has_build.Goals as goal

pub returns-then-worker-len : goal.returns-then-worker-len
returns-then-worker-len c =
    ap (nat_lt 0) c.taken.ensures ∙ has_some _ c.self.inside.counts.held c.args.worker (omega arith) c.self.invariant.held ∙ ap (λ b. has_build b c.args.worker) c.self.view_is

pub returns-else-worker-len : goal.returns-else-worker-len
returns-else-worker-len c =
    le-ltb c.args.worker c.len.result c.if-worker-len.false ∙ sym (has_none _ c.self.inside.counts.held c.args.worker (omega arith) c.self.invariant.held) ∙ ap (λ b. has_build b c.args.worker) c.self.view_is
