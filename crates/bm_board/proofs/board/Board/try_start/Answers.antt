use Rattle.std.proofs.Common.{◌≡◌, ◌<◌, ◌^◌, Bool, true, false, refl, sym, ap, subst, ◌∙◌, inl, inr, IsOk, All, arith}
use Rattle.bm_board.specs.Board.{BoardState}
use Rattle.bm_board.specs.Kept.{HasRoom, are_free}
use Rattle.bm_board.proofs.Trying.{IsTried, start_tried, room_tried, counted_tried, answer_tried, board_tried}
use Rattle.bm_board.proofs.board.Board.try_start.Goals.{After-has_place, After-are_free}
use Rattle.bm_board.proofs.board.Board.try_start.Goals as goal

-- the board as the tests see it
abbrev board : After-has_place → BoardState
board c = record { workers = c.self.inside.workers.items; maxima = c.self.inside.maxima.items; jobs = c.self.inside.jobs.items }

-- the tests before the locks, by the answer of the last
tried : (c : After-has_place) (place : Bool) → c.has_place.result ≡ place → IsTried (board c) c.args.self.now c.self.inside.counts.held c.args.id c.index-job.result.now c.build-build.result.now c.index-had.result.now c.taken.result place
tried c place h =
    record {
      seen = c.self.view_is;
      low = omega arith;
      job_is = c.index-job.ensures;
      kept = c.self.invariant.held;
      build_is = c.build-build.ensures;
      waits = sym c.is_waiting.ensures ∙ c.if-not-is_waiting.false;
      had_is = c.index-had.ensures;
      taken_is = c.taken.ensures;
      placed = sym c.has_place.ensures.place ∙ h;
    }

-- the test of the locks, by its answer
freed : (c : After-are_free) (free : Bool) → c.are_free.result ≡ free → are_free c.self.inside.counts.held c.self.inside.maxima.items c.build-build.result.now.locks ≡ free
freed c free h =
    ap (λ m. are_free c.self.inside.counts.held m c.build-build.result.now.locks) (sym c.deref.ensures.value) ∙ sym c.are_free.ensures.free ∙ h

pub returns-then-not-has_place-clause-refused : goal.returns-then-not-has_place-clause-refused
returns-then-not-has_place-clause-refused c =
    inl (start_tried (tried (goal.at.returns-then-not-has_place-clause-refused c).After-has_place false c.if-not-has_place.true) refl)

pub returns-then-not-are_free-clause-refused : goal.returns-then-not-are_free-clause-refused
returns-then-not-are_free-clause-refused c =
    let at = goal.at.returns-then-not-are_free-clause-refused c in
    inl (start_tried (tried at.After-has_place true c.if-not-has_place.false) (freed at.After-are_free false c.if-not-are_free.true))

pub returns-in_default-clause-refused : goal.returns-in_default-clause-refused
returns-in_default-clause-refused c =
    let at = goal.at.returns-in_default-clause-refused c in
    inr (subst (λ o. IsOk o) (sym (start_tried (tried at.After-has_place true c.if-not-has_place.false) (freed at.After-are_free true c.if-not-are_free.false))) refl, refl)

pub take-requires-clause-room : goal.take-requires-clause-room
take-requires-clause-room c =
    let at = goal.at.take-requires-clause-room c in
    subst (λ h. HasRoom h c.build-build.result.now) (sym c.remove_waiting.ensures.held)
    (room_tried (tried at.After-has_place true c.if-not-has_place.false) (freed at.After-are_free true c.if-not-are_free.false)
    (c.has_place.ensures.room c.if-not-has_place.false) (subst (λ ms. All (λ m. m < 2 ^ 32) ms) c.deref.ensures.value c.are_free.ensures.small))

pub invariant_of-self : goal.invariant_of-self
invariant_of-self c =
    let at = goal.at.invariant_of-self c in
    counted_tried _ c.remove_waiting.new.self _ (tried at.After-has_place true c.if-not-has_place.false) (freed at.After-are_free true c.if-not-are_free.false)
    c.index_mut.ensures.value c.start-next.ensures.job (record { held = c.remove_waiting.ensures.held; fewer = c.remove_waiting.ensures.fewer })
    c.take.ensures.held c.take.ensures.waiting c.self.invariant

pub returns-clause-started : goal.returns-clause-started
returns-clause-started c =
    let at = goal.at.returns-clause-started c in
    answer_tried (tried at.After-has_place true c.if-not-has_place.false) (freed at.After-are_free true c.if-not-are_free.false)
    c.index_mut.ensures.value c.start-next.ensures.next

pub returns-clause-board : goal.returns-clause-board
returns-clause-board c =
    let at = goal.at.returns-clause-board c in
    board_tried (tried at.After-has_place true c.if-not-has_place.false) (freed at.After-are_free true c.if-not-are_free.false)
    c.index_mut.ensures.value c.start-next.ensures.job
