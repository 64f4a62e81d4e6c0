-- A beginning of a lane's history that was seen, and which history it is of.
use Rattle.std.specs.Prelude.{ℕ}
use Rattle.logbook.specs.declared.tokens.Seen.{Seen}
use Rattle.logbook.specs.Pages.{Book}
use Rattle.bm_session.specs.declared.item.Item.{Item}
use Rattle.bm_lane.specs.declared.history.Counted.{Counted}

-- which history of all
abbrev pub HistoryId : Type 0
HistoryId = Book

abbrev pub Front : Type 0
Front = Seen Item ℕ Counted
