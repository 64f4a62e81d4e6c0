-- The line of standard input that is being read, and what is told of it.
use Rattle.std.specs.Prelude.{ℕ, ◌==◌, Bool, true, false, ◌&&◌, nat_lt, List, [], ◌∷◌, ◌++◌, length, Option, Some, None, if◌then◌else◌}
use Rattle.bm_operator.specs.Cancel.{cancelled}
use Rattle.bm_master_threads.specs.declared.input.LineTold.{LineTold}
use Rattle.bm_master_threads.specs.declared.input.LineTold.TheVariants as line

-- the bytes that are kept of it, and whether these are all
pub record LineView : Type 0 where
  pub bytes : List ℕ
  pub is_whole : Bool

-- nothing of it was read
abbrev pub no_line : LineView
no_line = record { bytes = []; is_whole = true }

-- a byte is kept while 4,096 are not: behind so many the line isn't whole
abbrev pub with_byte : ℕ → LineView → LineView
with_byte byte l =
    if nat_lt (length l.bytes) 4096
    then record { bytes = l.bytes ++ byte ∷ []; is_whole = l.is_whole }
    else record { bytes = l.bytes; is_whole = false }

abbrev pub is_empty : LineView → Bool
is_empty l = l.is_whole && (length l.bytes == 0)

-- the build that it cancels: a line that isn't whole cancels none
abbrev pub asked : LineView → Option ℕ
asked l = if l.is_whole then cancelled l.bytes else None

-- what follows a byte of the input: a line end begins the next line
abbrev pub after_byte : ℕ → LineView → LineView
after_byte byte l = if byte == 10 then no_line else with_byte byte l

-- what the coordinator is told of a line that asked for this, if it is told
abbrev pub line_told : Bool → Option ℕ → LineTold
line_told true (Some build) = line.Cancel build
line_told true None = line.Misread
line_told false build = line.Nothing
