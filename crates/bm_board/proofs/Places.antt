-- Lemmas on a call on one build of a board.
use Rattle.std.proofs.Common.{◌≡◌, ℕ, ◌<◌, Bool, List, length, get_or, set, Ok, Err, refl, sym, ap, ◌∙◌}
use Rattle.std.specs.Option.{option_map_or}
use Rattle.std.proofs.lemmas.Option.{slice_get-get_or}
use Rattle.std.proofs.lemmas.List.{set-get_or}
use Rattle.bm_board.specs.declared.refusal.BoardRefusal.TheVariants.{NoBuild}
use Rattle.bm_board.specs.ScheduledBuild.{BuildState, Outcome, job_after, answer_of}
use Rattle.bm_board.specs.declared.worker_slots.WorkerSlots.{WorkerSlots}
use Rattle.bm_board.specs.Board.{BoardState, on_build, board_after, with_ready}

-- the board with one build changed
abbrev pub with_job : BoardState → ℕ → BuildState → BoardState
with_job b id job = record { workers = b.workers; maxima = b.maxima; jobs = set b.jobs id job }

-- two reads of one place give the same
pub same_place : {X : Type 0} (xs : List X) (i : ℕ) (x y : X) → i < length xs → x ≡ get_or xs i x → y ≡ get_or xs i y → x ≡ y
same_place xs i x y l ex ey =
    let fx = slice_get-get_or xs i x l in
    let fy = slice_get-get_or xs i y l in
    cc

-- a call on the build at a place is that call on it
pub on_place : {T : Type 0} (call : BuildState → Outcome T) (b : BoardState) (id : ℕ) (job : BuildState) → id < length b.jobs → job ≡ get_or b.jobs id job → on_build call b id ≡ call job
on_place call b id job l e =
    ap (λ o. option_map_or call o (Err NoBuild)) (slice_get-get_or b.jobs id job l) ∙ ap call (sym e)

-- its answer, where `now` is what the board is seen as
pub answer_place : {T : Type 0} (call : BuildState → Outcome T) (b now : BoardState) (id : ℕ) (job : BuildState) → b ≡ now → id < length b.jobs → job ≡ get_or b.jobs id job → answer_of (call job) ≡ answer_of (on_build call now id)
answer_place call b now id job v l e =
    ap answer_of (sym (on_place call b id job l e)) ∙ ap (λ z. answer_of (on_build call z id)) v

-- the board after an outcome changes the build at its place alone
pub after_outcome : {T : Type 0} (b : BoardState) (id : ℕ) (job : BuildState) → job ≡ get_or b.jobs id job → (outcome : Outcome T) → with_job b id (job_after job outcome) ≡ board_after b id outcome
after_outcome b id job e (Ok p) = refl
after_outcome b id job e (Err refusal) = ap (λ j. with_job b id j) e ∙ ap (λ js. record { workers = b.workers; maxima = b.maxima; jobs = js }) (set-get_or b.jobs id job)

-- the board after a call on the build at a place
pub after_place : {T : Type 0} (call : BuildState → Outcome T) (b now : BoardState) (id : ℕ) (job new : BuildState) → b ≡ now → id < length b.jobs → job ≡ get_or b.jobs id job → new ≡ job_after job (call job) → with_job b id new ≡ board_after now id (on_build call now id)
after_place call b now id job new v l e h =
    ap (λ j. with_job b id j) h ∙ after_outcome b id job e (call job) ∙ ap (λ o. board_after b id o) (sym (on_place call b id job l e)) ∙ ap (λ z. board_after z id (on_build call z id)) v

-- the board with the worker at a place ready or not
pub ready_place : (b now : BoardState) (w : ℕ) (old : WorkerSlots) (ready : Bool) → b ≡ now → w < length b.workers → old ≡ get_or b.workers w old → record { workers = set b.workers w (record { slots = old.slots; ready = ready }); maxima = b.maxima; jobs = b.jobs } ≡ with_ready now w ready
ready_place b now w old ready v l e =
    let found = slice_get-get_or b.workers w old l in
    let change : WorkerSlots → List WorkerSlots = λ worker. set b.workers w (record { slots = worker.slots; ready = ready }) in
    let after : List WorkerSlots → BoardState = λ workers. record { workers = workers; maxima = b.maxima; jobs = b.jobs } in
    ap (λ worker. after (change worker)) e ∙ ap (λ o. after (option_map_or change o b.workers)) (sym found) ∙ ap (λ z. with_ready z w ready) v
