-- Sorted ranges of request numbers, and one number more.
use Rattle.std.specs.Prelude.{◌≡◌, ℕ, ◌+◌, ◌-◌, ◌<◌, ◌≤◌, ◌==◌, List, length, Some, if◌then◌else◌}
use Rattle.std.specs.List.{HoldsAt, AllWithin}
use Rattle.bm_session.specs.declared.seen.Seen.{Seen}
use Rattle.bm_session.specs.declared.reply.Verdict.{Verdict}
use Rattle.bm_session.specs.Seen.{IsMerged, verdict_in}

-- the ranges, and for how many more there is room
pub record RangeList : Type 0 where
  pub ranges : List Seen
  pub room : ℕ

-- the new ranges hold the number n with the verdict v, and every other number as the old ones do
pub record HoldsAlso (old new : List Seen) (n : ℕ) (v : Verdict) : Type 0 where
  pub merged : IsMerged new
  pub exact : (m : ℕ) → verdict_in new m ≡ (if m == n then Some v else verdict_in old m)

-- the first i ranges begin at the number or before it, the others after it
pub record IsPlace (rs : List Seen) (n i : ℕ) : Type 0 where
  pub bound : i ≤ length rs
  pub begun : AllWithin (λ (r : Seen). r.first ≤ n) rs 0 i
  pub later : AllWithin (λ (r : Seen). n < r.first) rs i (length rs)

-- the range before place i ends just before the number, with the verdict
pub record JoinsBefore (rs : List Seen) (i n : ℕ) (v : Verdict) : Type 0 where
  pub some : 0 < i
  pub near : HoldsAt (λ (r : Seen). r.last + 1 ≡ n) rs (i - 1)
  pub same : HoldsAt (λ (r : Seen). r.verdict ≡ v) rs (i - 1)

-- the range at place i begins just after the number, with the verdict
pub record JoinsAfter (rs : List Seen) (i n : ℕ) (v : Verdict) : Type 0 where
  pub some : i < length rs
  pub near : HoldsAt (λ (r : Seen). n + 1 ≡ r.first) rs i
  pub same : HoldsAt (λ (r : Seen). v ≡ r.verdict) rs i
