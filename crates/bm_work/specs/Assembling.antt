-- A pipe's texts as they come together.
use Rattle.std.specs.Prelude.{◌≡◌, ℕ, ◌<◌, List, [], length}
use Rattle.bm_lines.specs.declared.letter.Letter.{Letter}
use Rattle.bm_work.specs.Cuts.{longest, texts_of, left_of}

-- the stream that the pipe is, and the bytes that no text has yet
pub record Assembling : Type 0 where
  pub letter : Letter
  pub kept : List ℕ

-- No text ends in the bytes.
pub record IsUnended (bytes : List ℕ) : Type 0 where
  pub no_text : texts_of bytes ≡ []
  pub all_left : left_of bytes ≡ bytes
  pub short : length bytes < longest
