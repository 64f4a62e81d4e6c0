use Rattle.std.proofs.Common.{add-one, ◌≡◌, ◌∙◌, ◌∷◌, ◌++◌, [], ◌+◌, List, map, take, ap, sym}
use Rattle.std.proofs.lemmas.List.{map-append, take_all}
use Rattle.std.proofs.Math.Seq.{take-suc}
use Rattle.bm_board.specs.declared.plan.Build.{Build}
use Rattle.bm_board.specs.Board.{BoardState, opening, with_build}
use Rattle.bm_board.specs.ScheduledBuild.{BuildState, waiting}
use Rattle.bm_build_queue.specs.BuildQueue.{QueueState, on_board}
use Rattle.bm_lanes.specs.ConfigLists.{maxima, slots}
use Rattle.bm_master_threads.specs.Beginnings.{board_of}
use Rattle.bm_master_threads.proofs.setup.queue_of.Goals as goal

pub loop-build-preserved : goal.loop-build-preserved
loop-build-preserved g c =
    let builds = c.args.builds.now in
    let board = opening (slots c.args.workers.now) (maxima c.args.locks.now) in
    let i = c.loop-build.build-index in
    let one = c.build-item.result in
    let waits = λ (b : Build). waiting (on_board b) in
    let more : take (i + 1) builds ≡ take i builds ++ one ∷ [] = rw add-one (take-suc builds i one c.loop-build-test.true) ∙ ap (λ bs. take i builds ++ bs ∷ []) (sym c.build-item.is) in
    record {
      board = ap (λ (q : QueueState). q.board) c.in-Ok.ensures.added
          ∙ ap (λ (b : BoardState). with_build b (on_board one)) c.loop-build.invariant.board
          ∙ ap (λ (jobs : List BuildState). record board { jobs = jobs }) (sym (map-append waits (take i builds) (one ∷ [])) ∙ ap (map waits) (sym more));
      pools = ap (λ (q : QueueState). q.pools) c.in-Ok.ensures.added ∙ c.loop-build.invariant.pools;
    }

pub returns-clause-board : goal.returns-clause-board
returns-clause-board g c = c.loop-build.invariant.board ∙ ap (board_of c.args.workers.now c.args.locks.now) (take_all c.loop-build.build-index c.args.builds.now c.loop-build-test.false)
