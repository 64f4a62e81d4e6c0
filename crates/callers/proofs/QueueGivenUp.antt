-- What giving a build up does to the others.
use Rattle.std.proofs.Common.{◌≡◌, ◌≢◌, ℕ, zero, suc, List, [], ◌∷◌, Option, Some, None, Ok, Err, IfSome, IfNone, slice_set, refl, sym, ap, ◌∙◌}
use Rattle.std.specs.List.{slice_get, position}
use Rattle.std.specs.Option.{option_map}
use Rattle.std.proofs.lemmas.Bool.{and_parts, eqb-true}
use Rattle.std.proofs.lemmas.List.Quantifiers.{position-Some}
use Rattle.std.proofs.lemmas.Option.{slice_get-get_or}
use Rattle.bm_board.specs.ScheduledBuild.{BuildState, Outcome, give_up, waits_for}
use Rattle.bm_board.specs.Board.{BoardState, board_after, on_build, worker_of}
use Rattle.bm_build_queue.specs.BuildQueue.{QueueState, after_giving_up, with_board}

elsewhere : (jobs : List BuildState) (n k : ℕ) (job : BuildState) → k ≢ n → slice_get (slice_set jobs n job) k ≡ slice_get jobs k
elsewhere [] n k job other = refl
elsewhere (j ∷ jobs) zero zero job other = absurd (other refl)
elsewhere (j ∷ jobs) zero (suc k) job other = refl
elsewhere (j ∷ jobs) (suc n) zero job other = refl
elsewhere (j ∷ jobs) (suc n) (suc k) job other = elsewhere jobs n k job (λ same. other (ap suc same))

-- a call on one build leaves the others
left : (b : BoardState) (n k : ℕ) (out : Outcome (Unit {0})) → k ≢ n → slice_get (board_after b n out).jobs k ≡ slice_get b.jobs k
left b n k (Ok p) other = elsewhere b.jobs n k p.0 other
left b n k (Err why) other = refl

-- the first build that waits for a worker is one of that worker
its_own : (jobs : List BuildState) (worker n : ℕ) → position (waits_for worker) jobs ≡ Some n → option_map (λ job. job.build.worker) (slice_get jobs n) ≡ Some worker
its_own [] worker n found = cc
its_own (job ∷ jobs) worker n found =
    let first = position-Some (waits_for worker) (job ∷ jobs) n job found in
    ap (option_map (λ (j : BuildState). j.build.worker)) (slice_get-get_or (job ∷ jobs) n job first.0)
    ∙ ap Some (eqb-true _ worker (and_parts _ _ first.1).1)

pub others_stay : (result : Option ℕ) (old new : QueueState) (worker : ℕ) → result ≡ position (waits_for worker) old.board.jobs
    → IfSome result (λ n. new ≡ with_board old (after_giving_up old.board n)) → IfNone result (new ≡ old)
    → (number : ℕ) → worker_of old.board number ≢ Some worker → slice_get new.board.jobs number ≡ slice_get old.board.jobs number
others_stay None old new worker first given none number other = ap (λ (q : QueueState). slice_get q.board.jobs number) none
others_stay (Some n) old new worker first given none number other =
    ap (λ (q : QueueState). slice_get q.board.jobs number) given
    ∙ left old.board n number (on_build give_up old.board n)
    (λ same. other (ap (worker_of old.board) same ∙ its_own old.board.jobs worker n (sym first)))
