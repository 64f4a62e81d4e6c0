-- What a lane keeps in the place of a cut trace.
use Rattle.std.specs.Prelude.{◌≡◌, ◌≤◌, ◌-◌, true, List, length, take, drop}
use Rattle.bm_session.specs.Trace.{Trace, was_taken, items, productive}
use Rattle.bm_session.specs.declared.item.Item.{Item}
use Rattle.bm_store.specs.Book.{book}
use Rattle.bm_store.specs.Kept.{Kept, logs_in}

-- the queue has the items of the trace that viewers do not see yet, and the book is that of the
-- others
pub record IsKept (t : Trace) (queue : List Item) (kept : List Kept) : Type 0 where
  pub taken : was_taken t ≡ true
  pub few : length queue ≤ productive t
  pub queued : queue ≡ drop (productive t - length queue) (items t)
  pub booked : logs_in kept ≡ book (take (productive t - length queue) (items t))
