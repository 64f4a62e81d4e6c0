-- Merged ranges of request numbers.
use Rattle.std.specs.Prelude.{◌≡◌, ℕ, ◌+◌, ◌<◌, ◌≤◌, nat_le, ◌&&◌, List, [], ◌∷◌, Option, option_map, find, ⊤}
use Rattle.bm_session.specs.declared.seen.Seen.{Seen}
use Rattle.bm_session.specs.declared.reply.Verdict.{Verdict}
use Rattle.bm_session.specs.Trace.{Trace, seen}

-- the ranges do not overlap, and could not be one
abbrev pub IsApart : Seen → Seen → Type 0
IsApart a b = (a.last < b.first) × (a.last + 1 ≡ b.first → a.verdict ≡ b.verdict → ⊥)

-- sorted ranges, no two of which overlap or could be one
abbrev pub IsMerged : List Seen → Type 0
IsMerged [] = ⊤
IsMerged (a ∷ []) = a.first ≤ a.last
IsMerged (a ∷ b ∷ rs) = (a.first ≤ a.last) × IsApart a b × IsMerged (b ∷ rs)

-- the verdict of the range that has the number
abbrev pub verdict_in : List Seen → ℕ → Option Verdict
verdict_in rs n =
    option_map (λ (r : Seen). r.verdict)
    (find (λ (r : Seen). nat_le r.first n && nat_le n r.last) rs)

-- the ranges hold just the numbers that the trace had, each with its first verdict
pub record HoldsSeen (rs : List Seen) (t : Trace) : Type 0 where
  pub merged : IsMerged rs
  pub exact : (n : ℕ) → verdict_in rs n ≡ seen t n
