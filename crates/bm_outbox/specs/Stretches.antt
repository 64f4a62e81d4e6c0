-- How much of what a pipe gives is shown at once.
use Rattle.std.specs.Prelude.{◌≡◌, ◌<◌, ◌≤◌, ℕ, List, ◌++◌, length, take, drop}
use Rattle.std.specs.Str.Lossy.{utf8_lossy}
use Rattle.bm_lines.specs.Lines.{lines_of}
use Rattle.bm_lines.specs.declared.letter.Letter.{Letter}
use Rattle.bm_work.specs.Cuts.{longest, texts_of as cut_texts, left_of, shown}
use Rattle.bm_outbox.specs.Joining.{Joining, AreApart, all_of, lines_in, whole_of}

-- The first n bytes are shown at once. Behind what is shown of them stands what is shown of the
-- rest, and so do its lines.
pub record IsStretch (bytes : List ℕ) (n : ℕ) : Type 0 where
  pub some : 0 < n
  pub within : n ≤ length bytes
  pub short : n ≤ longest
  pub same_text : whole_of (shown (cut_texts bytes))
      ≡ utf8_lossy (take n bytes) ++ whole_of (shown (cut_texts (drop n bytes)))
  pub same_lines : (letter : Letter) → lines_in letter (shown (cut_texts bytes))
      ≡ lines_of letter (utf8_lossy (take n bytes)) ++ lines_in letter (shown (cut_texts (drop n bytes)))
  pub same_left : left_of bytes ≡ left_of (drop n bytes)

-- what is shown of these bytes was added: it follows all the others, and so do its lines
pub record AddsAll (old : Joining) (bytes : List ℕ) (new : Joining) : Type 0 where
  pub letter : new.letter ≡ old.letter
  pub text_grew : whole_of (all_of new) ≡ whole_of (all_of old) ++ whole_of (shown (cut_texts bytes))
  pub lines_grew : lines_in old.letter (all_of new)
      ≡ lines_in old.letter (all_of old) ++ lines_in old.letter (shown (cut_texts bytes))
  pub still_apart : AreApart (all_of old) → AreApart (all_of new)
