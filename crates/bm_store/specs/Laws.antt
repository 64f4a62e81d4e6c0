-- Laws of books.
use Rattle.std.specs.Prelude.{◌≡◌, ℕ, ◌≤◌, Option, Some, None, if◌then◌else◌, List, ◌++◌, take, true}
use mathlib.Core.List.{IsPrefix}
use Rattle.bm_lines.specs.Names.{Name}
use Rattle.bm_lines.specs.Lines.{Line}
use Rattle.bm_session.specs.Trace.{Trace, has_log, log, slice, visible, productive, items, was_taken}
use Rattle.bm_session.specs.declared.item.Item.{Item}
use Rattle.bm_store.specs.Book.{book, logs, after_item, blocks_in, chunk_in}
use Rattle.bm_store.specs.Kept.{Kept, logs_in, kept_after}

-- the asked lines of a log of the trace: none where it is not there
abbrev pub look_at : Trace → ℕ → Name → ℕ → ℕ → Option (List Line)
look_at t k name off lim = if has_log t k name then Some (slice (log t k name) off lim) else None

-- The book of a trace's items has the logs and the outcomes that the trace says. It is false where
-- an event wasn't taken: in `Go, Up, Go, refused start 0` the definition ends two commands, and one
-- item ends one. A session's invariant supplies the premise.
abbrev pub BooksHaveTheLogs : Type 0
BooksHaveTheLogs = (t : Trace) → was_taken t ≡ true → book (items t) ≡ logs t

-- that of the first d items has those of the prefix that viewers see
abbrev pub VisibleBooksHaveTheLogs : Type 0
VisibleBooksHaveTheLogs =
    (t : Trace) (d : ℕ) → was_taken t ≡ true → d ≤ productive t
    → book (take d (items t)) ≡ logs (visible t d)

-- and answers each look as that prefix does
abbrev pub BooksAnswerLooks : Type 0
BooksAnswerLooks =
    (t : Trace) (d k : ℕ) (name : Name) (off lim : ℕ) → was_taken t ≡ true → d ≤ productive t
    → chunk_in (book (take d (items t))) k name off lim ≡ look_at (visible t d) k name off lim

-- a book in memory means the logs that its items make
abbrev pub KeptBooksMeanLogs : Type 0
KeptBooksMeanLogs =
    (cs : List Kept) (i : Item) → logs_in (kept_after cs i) ≡ after_item (logs_in cs) i

-- a log only gets blocks at its end, whatever items come
abbrev pub LogsGrow : Type 0
LogsGrow =
    (is js : List Item) (k : ℕ) (name : Name)
    → IsPrefix (blocks_in (book is) k name) (blocks_in (book (is ++ js)) k name)
