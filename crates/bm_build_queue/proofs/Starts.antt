-- Lemmas on the search for a build that can be started.
use Rattle.std.proofs.Common.{◌≡◌, ◌⊎◌, ℕ, ◌+◌, ◌<◌, true, false, length, Option, Some, None, Err, refl, sym, ap, subst, ◌∙◌, inl, inr}
use Rattle.std.specs.List.{slice_get}
use Rattle.std.specs.Option.{option_map_or}
use Rattle.std.specs.Result.{is_ok}
use Rattle.std.proofs.lemmas.Bool.{and_parts, true≢false}
use Rattle.std.proofs.lemmas.Option.{slice_get_within}
use Rattle.bm_board.specs.declared.refusal.BoardRefusal.TheVariants.{NoBuild}
use Rattle.bm_board.specs.ScheduledBuild.{BuildState}
use Rattle.bm_board.specs.Board.{BoardState, on_build, start}
use Rattle.bm_build_queue.specs.BuildQueue.{CanStart, QueueState, can_start}
use Rattle.bm_build_queue.proofs.Below.{below_more}

-- no build before this number was started, and memory was wanting for each that could be
abbrev pub Searched : QueueState → QueueState → ℕ → Type 0
Searched old q n =
    (q.board ≡ old.board) × (q.pools ≡ old.pools) × (q.is_short ≡ true → CanStart old.board)
    × ((k : ℕ) → k < n → can_start old k ≡ true → q.is_short ≡ true)

can_start_alike : (old q : QueueState) (n : ℕ) → q.board ≡ old.board → q.pools ≡ old.pools → can_start q n ≡ can_start old n
can_start_alike old q n hb hp =
    ap (λ b. can_start (record { board = b; pools = q.pools; is_short = q.is_short }) n) hb
    ∙ ap (λ ps. can_start (record { board = old.board; pools = ps; is_short = q.is_short }) n) hp

-- one build more wasn't started
pub searched_more : (old q after : QueueState) (n : ℕ) → Searched old q n → (after.board ≡ q.board) × (after.pools ≡ q.pools)
    → (can_start q n ≡ true → after.is_short ≡ true) → (q.is_short ≡ true → after.is_short ≡ true)
    → (after.is_short ≡ true → (q.is_short ≡ true) ⊎ CanStart q.board) → Searched old after (n + 1)
searched_more old q after n h same left still short =
    let hb = h.0 in
    let hp = h.1 in (
      same.0 ∙ hb,
      same.1 ∙ hp,
      λ s. elim (short s) [
        | inl x ↦ h.2 x
        | inr x ↦ subst CanStart hb x
      ],
      below_more (λ k. can_start old k ≡ true → after.is_short ≡ true) n (λ k l c. still (h.3 k l c)) (λ c. left (can_start_alike old q n hb hp ∙ c)),
    )

low_at : (b : BoardState) (k : ℕ) (o : Option BuildState) → slice_get b.jobs k ≡ o → is_ok (option_map_or (start b) o (Err NoBuild)) ≡ true → k < length b.jobs
low_at b k None e h = absurd (true≢false (sym h))
low_at b k (Some job) e h = slice_get_within b.jobs k job e

-- what can be started is there
pub can_start_low : (q : QueueState) (k : ℕ) → can_start q k ≡ true → k < length q.board.jobs
can_start_low q k h = low_at q.board k (slice_get q.board.jobs k) refl (and_parts (is_ok (on_build (start q.board) q.board k)) _ h).0
