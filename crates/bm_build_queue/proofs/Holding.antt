-- A build that has its result holds its slot until it is released.
use Rattle.std.proofs.Common.{◌≡◌, ℕ, ◌&&◌, ◌==◌, true, Bool, List, Option, Some, None, Result, Ok, Err, refl, sym, ap, ◌∙◌}
use Rattle.std.specs.List.{slice_get}
use Rattle.std.specs.Option.{option_map_or}
use Rattle.std.proofs.lemmas.Option.{get_or_from_slice_get, slice_get_within}
use Rattle.bm_session.specs.declared.results.Results.{Results}
use Rattle.bm_board.specs.declared.scheduled_build.Phase.{Phase}
use Rattle.bm_board.specs.declared.scheduled_build.Phase.TheVariants.{Waiting, Running, Over}
use Rattle.bm_board.specs.declared.steps.Next.{Next}
use Rattle.bm_board.specs.declared.steps.Next.TheVariants.{Step, Ended}
use Rattle.bm_board.specs.declared.refusal.BoardRefusal.TheVariants.{NoBuild}
use Rattle.bm_board.specs.ScheduledBuild.{BuildState, Outcome, IsSameHolder, finish, finish_in, is_holding, job_after, phase_of}
use Rattle.bm_board.specs.Board.{BoardState, board_after, occupied, occupies, on_build}
use Rattle.bm_board.proofs.Keeping.{count_stays}
use Rattle.bm_build_queue.specs.BuildQueue.{HoldsSlots}

goes_on_holding : (next : Next) → is_holding (phase_of next) ≡ true
goes_on_holding (Step step) = refl
goes_on_holding (Ended result) = refl

still_holds : (p : Phase) (r : Results) (job : BuildState) → job.phase ≡ p → IsSameHolder job (job_after job (finish_in p r job))
still_holds Waiting r job h = record { build = refl; holding = refl }
still_holds (Running step cancelled) r job h =
    record { build = refl; holding = goes_on_holding _ ∙ sym (ap is_holding h) }
still_holds (Over result holds) r job h = record { build = refl; holding = refl }

held_by : {T : Type 0} (b : BoardState) (n : ℕ) (job : BuildState) (out : Outcome T) → slice_get b.jobs n ≡ Some job
    → IsSameHolder job (job_after job out) → HoldsSlots b (board_after b n out)
held_by b n job (Err why) e same w = refl
held_by b n job (Ok p) e same w =
    count_stays (occupies w) b.jobs n job p.0 (slice_get_within b.jobs n job e) (sym (get_or_from_slice_get b.jobs n job job e))
    (ap (λ h. h && (p.0.build.worker == w)) same.holding ∙ ap (λ build. is_holding job.phase && (build.worker == w)) same.build)

held_at : (b : BoardState) (n : ℕ) (r : Results) (o : Option BuildState) → slice_get b.jobs n ≡ o
    → HoldsSlots b (board_after b n (option_map_or (finish r) o (Err NoBuild)))
held_at b n r None e w = refl
held_at b n r (Some job) e w = held_by b n job (finish r job) e (still_holds job.phase r job refl) w

-- a build whose runner has reported holds its slot as before
pub held : (b now new : BoardState) (n : ℕ) (r : Results) → b ≡ now → new ≡ board_after b n (on_build (finish r) b n) → HoldsSlots now new
held b now new n r v e w =
    ap (λ z. occupied w z.jobs) e ∙ held_at b n r (slice_get b.jobs n) refl w ∙ ap (λ z. occupied w z.jobs) v
