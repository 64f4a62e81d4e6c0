-- What a book answers of lines, and of a portion of their text that is bounded in bytes.
use Rattle.std.specs.Prelude.{◌≡◌, ◌⊎◌, ◌≤◌, ◌<◌, ◌+◌, ◌-◌, ◌++◌, ℕ, List, Option, Result, Ok, Err, MatchOption, IsTrue, IsFalse, length, drop}
use Rattle.bm_lines.specs.Lines.{Line, content_of}
use Rattle.bm_lines.specs.Names.{Name}
use Rattle.bm_session.specs.Trace.{slice}
use Rattle.bm_store.specs.declared.chunk.Chunk.{Chunk}
use Rattle.bm_store.specs.declared.chunk.ViewRefusal.{ViewRefusal}
use Rattle.bm_store.specs.declared.chunk.ViewRefusal.TheVariants.{NoLog, Mem}
use Rattle.bm_store.specs.declared.portion.Portion.{Portion}
use Rattle.bm_store.specs.Book.{Logs, chunk_of, lines_in_log}

-- what is answered of a look at lines
abbrev pub LooksAt : Result Chunk ViewRefusal → ℕ → Option (List Line) → Type 0
LooksAt r off asked =
    MatchOption asked (r ≡ Err NoLog) (λ lines. (r ≡ Ok (chunk_of off lines)) ⊎ (r ≡ Err Mem))

-- A portion of the text of the asked lines, behind its first `skip` bytes. It has the first bytes
-- of that, `most` at most, and tells where the rest begins, or that it is all. Any other leaves
-- some, and room for three bytes at most: where four are asked for, it brings something.
pub record IsPortion (lines : List Line) (off lim skip most : ℕ) (p : Portion) : Type 0 where
  pub few : p.lines ≤ lim
  pub short : length p.content ≤ most
  pub parts : drop skip (content_of (slice lines off lim)) ≡ p.content ++ drop p.skip (content_of (slice lines (off + p.lines) (lim - p.lines)))
  pub last : IsTrue p.is_last → (p.content ≡ drop skip (content_of (slice lines off lim))) × (p.lines ≡ length (slice lines off lim))
  pub full : IsFalse p.is_last → most < length p.content + 4
  pub more : IsFalse p.is_last → p.skip < length (content_of (slice lines (off + p.lines) (lim - p.lines)))

-- what is answered of a look at a portion
abbrev pub LooksAtPortion : List Logs → ℕ → Name → ℕ → ℕ → ℕ → ℕ → Result Portion ViewRefusal → Type 0
LooksAtPortion ls k name off lim skip most r =
    MatchOption (lines_in_log ls k name) (r ≡ Err NoLog)
    (λ lines. (r ≡ Err Mem) ⊎ ((p : Portion) × (r ≡ Ok p) × IsPortion lines off lim skip most p))
