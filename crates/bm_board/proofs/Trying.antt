-- Lemmas on what the tests of a start found.
use Rattle.std.proofs.Common.{◌≡◌, ℕ, ◌+◌, ◌<◌, ◌^◌, Bool, true, ◌&&◌, nat_lt, length, get_or, slice_index, All, Ok, sym, ap, subst, ◌∙◌, arith}
use Rattle.std.proofs.lemmas.Bool.{and_parts, ltb-true}
use Rattle.bm_board.specs.declared.plan.Build.{Build}
use Rattle.bm_board.specs.declared.steps.Next.{Next}
use Rattle.bm_board.specs.declared.worker_slots.WorkerSlots.{WorkerSlots}
use Rattle.bm_board.specs.ScheduledBuild.{BuildState, is_waiting, started, first_of, answer_of}
use Rattle.bm_board.specs.Board.{BoardState, start, on_build, board_after}
use Rattle.bm_board.specs.Kept.{HeldCounts, BoardCounts, HasRoom, IsCounted, IsKept, IsTaken, are_free}
use Rattle.bm_board.proofs.Places.{same_place, with_job}
use Rattle.bm_board.proofs.Keeping.{known_at}
use Rattle.bm_board.proofs.Starting.{chosen, start_by, started_answer, started_board, started_waits_not, starts, startable, has_room}
use Rattle.bm_board.proofs.Counting.{Unwaits, counted_started}

-- the build waits, and its worker has a place or not
pub record IsTried (b now : BoardState) (t : HeldCounts) (id : ℕ) (job : BuildState) (build : Build) (had : WorkerSlots) (taken : ℕ) (place : Bool) : Type 0 where
  pub seen : b ≡ now
  pub low : id < length b.jobs
  pub job_is : job ≡ get_or b.jobs id job
  pub kept : IsKept b t
  pub build_is : build ≡ job.build
  pub waits : is_waiting job.phase ≡ true
  pub had_is : had ≡ get_or b.workers build.worker had
  pub taken_is : taken ≡ slice_index t.taken build.worker
  pub placed : (had.ready && nat_lt taken had.slots) ≡ place

-- what a start does by what its tests found
pub start_tried : {b now : BoardState} {t : HeldCounts} {id : ℕ} {job : BuildState} {build : Build} {had : WorkerSlots} {taken : ℕ} {place free : Bool} → IsTried b now t id job build had taken place → are_free t b.maxima build.locks ≡ free → on_build (start now) now id ≡ chosen job true place free
start_tried {b} {now} {t} {id} {job} {build} {had} {taken} {place} {free} f freed =
    start_by b now t id job build had taken true place free f.seen f.low f.job_is f.kept f.build_is f.waits f.had_is f.taken_is f.placed freed

-- the counts of the build stay in their types
pub room_tried : {b now : BoardState} {t : HeldCounts} {id : ℕ} {job : BuildState} {build : Build} {had : WorkerSlots} {taken : ℕ} → IsTried b now t id job build had taken true → are_free t b.maxima build.locks ≡ true → taken + 1 < 2 ^ 8 → All (λ m. m < 2 ^ 32) b.maxima → HasRoom t build
room_tried {b} {now} {t} {id} {job} {build} {had} {taken} f freed room small =
    has_room b t job build f.build_is f.kept (known_at b t id job f.low f.job_is f.kept) (omega (arith, f.taken_is, room)) small freed

-- all that is counted once the build started, at whose place stands what was tried
pub counted_tried : {b now : BoardState} (t less more : BoardCounts) {id : ℕ} {job other new : BuildState} {build : Build} {had : WorkerSlots} {taken : ℕ} → IsTried b now t.held id job build had taken true → are_free t.held b.maxima build.locks ≡ true → other ≡ get_or b.jobs id other → new ≡ started other → Unwaits t less build.worker → IsTaken less.held more.held build → more.waiting ≡ less.waiting → IsCounted b t → IsCounted (with_job b id new) more
counted_tried {b} {now} t less more {id} {job} {other} {new} {build} {had} {taken} f freed at hn un took still kept =
    let same = same_place b.jobs id job other f.low f.job_is at in
    let lt = ltb-true taken had.slots (and_parts had.ready (nat_lt taken had.slots) f.placed).1 in
    let mine = f.build_is ∙ ap (λ (j : BuildState). j.build) same in
    let waited : is_waiting other.phase ≡ true = subst (λ (j : BuildState). is_waiting j.phase ≡ true) same f.waits in
    counted_started b t less more id other new build f.low at (starts other new waited hn)
    (startable b t.held id other build had taken f.low at f.kept mine f.had_is f.taken_is lt freed)
    waited (ap (λ (j : BuildState). is_waiting j.phase) hn ∙ started_waits_not (first_of other)) mine un took still kept

-- the answer of the start
pub answer_tried : {b now : BoardState} {t : HeldCounts} {id : ℕ} {job other : BuildState} {build : Build} {had : WorkerSlots} {taken : ℕ} {next : Next} → IsTried b now t id job build had taken true → are_free t b.maxima build.locks ≡ true → other ≡ get_or b.jobs id other → next ≡ first_of other → Ok (record { worker = build.worker; next = next }) ≡ answer_of (on_build (start now) now id)
answer_tried {b} {now} {t} {id} {job} {other} {build} {had} {taken} {next} f freed at hn =
    started_answer job other build next (same_place b.jobs id job other f.low f.job_is at) f.build_is hn
    ∙ ap answer_of (sym (start_tried f freed))

-- the board after the start
pub board_tried : {b now : BoardState} {t : HeldCounts} {id : ℕ} {job other new : BuildState} {build : Build} {had : WorkerSlots} {taken : ℕ} → IsTried b now t id job build had taken true → are_free t b.maxima build.locks ≡ true → other ≡ get_or b.jobs id other → new ≡ started other → with_job b id new ≡ board_after now id (on_build (start now) now id)
board_tried {b} {now} {t} {id} {job} {other} {new} {build} {had} {taken} f freed at hn =
    started_board b now id job other new f.seen (same_place b.jobs id job other f.low f.job_is at) hn
    ∙ ap (board_after now id) (sym (start_tried f freed))
