-- A pipe's texts as they come together, and what is said at its end.
use Rattle.std.specs.Prelude.{◌≡◌, ℕ, List, Option, Some, None}
use Rattle.bm_lines.specs.declared.letter.Letter.{Letter}
use Rattle.bm_work.specs.Cuts.{last_text}
use Rattle.bm_outbox.specs.declared.said.Said.{Said}

-- the command and the stream that the pipe is of, and the bytes that no text has yet
pub record PipeState : Type 0 where
  pub command : ℕ
  pub letter : Letter
  pub kept : List ℕ

-- what was kept, with the letter of the pipe; or nothing was kept
abbrev pub IsLast : Letter → List ℕ → Option Said → Type 0
IsLast letter kept (Some s) = (last_text kept ≡ Some s.text) × (s.letter ≡ letter)
IsLast letter kept None = last_text kept ≡ None
