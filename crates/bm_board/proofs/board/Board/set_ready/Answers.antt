use Rattle.std.proofs.Common.{◌<◌, length, sym, subst}
use Rattle.bm_board.specs.Board.{BoardState}
use Rattle.bm_board.proofs.Places.{ready_place}
use Rattle.bm_board.proofs.Keeping.{kept_ready}
use Rattle.bm_board.proofs.Waiting.{waits_ready}
use Rattle.bm_board.proofs.board.Board.set_ready.Goals as goal

pub invariant_of-self : goal.invariant_of-self
invariant_of-self c = record {
  held = kept_ready _ _ c.args.worker c.index_mut.result.now c.args.ready c.index_mut.ensures.value c.self.invariant.held;
  waiting = waits_ready _ _ c.args.worker _ c.self.invariant.waiting;
}

pub returns : goal.returns
returns c =
    let l : c.args.worker < length c.self.inside.workers.items = subst (λ (s : BoardState). c.args.worker < length s.workers) (sym c.self.view_is) c.requires in
    ready_place _ _ c.args.worker c.index_mut.result.now c.args.ready c.self.view_is l c.index_mut.ensures.value
