-- Answers that are told piece by piece.
use Rattle.std.specs.Prelude.{ℕ, ◌-◌, ◌<◌, ◌≤◌, List, [], ◌++◌, length, drop, Option, Some, None, IfSome}
use Rattle.json.specs.Print.{escape}
use Rattle.bm_lines.specs.Names.{Name}
use Rattle.bm_lines.specs.Lines.{Line, content_of}
use Rattle.bm_session.specs.declared.item.Item.{Item}
use Rattle.bm_session.specs.Trace.{joined, slice}
use Rattle.bm_store.specs.Book.{book, blocks_in}

-- the lines of a log in the book of these items, none where it isn't there
abbrev pub log_in : List Item → ℕ → Name → List Line
log_in seen k name = joined (blocks_in (book seen) k name)

-- lines behind so many bytes of their text, as they stand inside a string of JSON
abbrev pub escaped : ℕ → List Line → List ℕ
escaped skip lines = escape (drop skip (content_of lines))

abbrev pub held : Option (List ℕ) → List ℕ
held None = []
held (Some text) = text

-- What is left to tell: what stands before the lines, the lines, and what stands behind them. The
-- lines are those from one place up to another, behind so many bytes of their text.
abbrev pub left_text : Option (List ℕ) → List Line → ℕ → ℕ → ℕ → Option (List ℕ) → List ℕ
left_text front lines at end skip back =
    held front ++ (escaped skip (slice lines at (end - at)) ++ held back)

-- what stands before or behind the lines has a byte at least
abbrev pub IsText : Option (List ℕ) → Type 0
IsText held = IfSome held (λ text. 0 < length text)

-- The lines that are left are there, and where there are any, so is a byte of their text.
abbrev pub AreLeft : List Line → ℕ → ℕ → ℕ → Type 0
AreLeft lines at end skip =
    (at ≤ end) × (end ≤ length lines)
    × (at < end → skip < length (content_of (slice lines at (end - at))))
