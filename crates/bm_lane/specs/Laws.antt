-- What viewers were shown, once the lane is settled.
use Rattle.std.specs.Prelude.{◌≡◌, ℕ, List, length, option_map, true}
use mathlib.Core.List.{IsPrefix}
use Rattle.bm_lines.specs.Names.{Name}
use Rattle.bm_session.specs.declared.item.Item.{Item}
use Rattle.bm_session.specs.Trace.{Trace, items, visible, was_taken}
use Rattle.bm_store.specs.Book.{chunk_of}
use Rattle.bm_store.specs.Laws.{look_at}
use Rattle.bm_lane.specs.Answers.{lines_of_book}

-- Who has seen a beginning of the trace's items was answered from the prefix of the trace with so
-- many items. The answer is the asked slice of the log as it stood there.
abbrev pub ChunksAreOfTheTrace : Type 0
ChunksAreOfTheTrace =
    (t : Trace) (seen : List Item) (k : ℕ) (name : Name) (off lim : ℕ) → was_taken t ≡ true
    → IsPrefix seen (items t)
    → lines_of_book seen k name off lim
    ≡ option_map (chunk_of off) (look_at (visible t (length seen)) k name off lim)
