-- Blocks with their places.
use Rattle.std.specs.Prelude.{◌≡◌, ℕ, List, length, map}
use Rattle.bm_lines.specs.Lines.{Line}
use Rattle.bm_session.specs.Trace.{joined}
use Rattle.bm_store.specs.declared.placed.Placed.{Placed}
use Rattle.bm_store.specs.Book.{placed}

abbrev pub block_at : Placed → List Line
block_at p = p.block

-- each block stands at its place, and there are so many lines
pub record IsPlacing (ps : List Placed) (lines : ℕ) : Type 0 where
  pub exact : ps ≡ placed (map block_at ps)
  pub counted : lines ≡ length (joined (map block_at ps))
