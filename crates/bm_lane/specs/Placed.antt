-- Blanks by their places in a list, and the ends that are made of them.
use Rattle.std.specs.Prelude.{◌≡◌, ℕ, zero, suc, ◌+◌, List, [], ◌∷◌, length}
pub use Rattle.atomic_table.specs.Seated.{TableId}
use Rattle.bm_lane.specs.Ends.{Blanked, Heard, Written, Watched, AllNew}
use Rattle.bm_lane.specs.Fronts.{HistoryId}
use Rattle.bm_lane.specs.Names.{no_queue, no_copy}

-- the queue of the blank at a place
abbrev pub queue_at : List Blanked → ℕ → TableId
queue_at [] i = no_queue
queue_at (b ∷ bs) zero = b.queue
queue_at (b ∷ bs) (suc i) = queue_at bs i

-- the copy of the blank at a place
abbrev pub copy_at : List Blanked → ℕ → HistoryId
copy_at [] i = no_copy
copy_at (b ∷ bs) zero = b.copy
copy_at (b ∷ bs) (suc i) = copy_at bs i

-- these are the queues and the copies of lane n, lane n + 1 and so on
abbrev pub ArePlaced : (ℕ → TableId) → (ℕ → HistoryId) → ℕ → List Blanked → Type 0
ArePlaced queue copy n [] = Unit {0}
ArePlaced queue copy n (b ∷ bs) =
    (b.queue ≡ queue n) × (b.copy ≡ copy n) × ArePlaced queue copy (n + 1) bs

-- a reader's end of a blank that took no event, and a writer's that took no item
abbrev pub new_reader : ℕ → Blanked → Heard
new_reader n b = record { lane = n; capacity = b.capacity; trace = []; put = [] }

abbrev pub new_writer : ℕ → Blanked → Written
new_writer n b =
    record { lane = n; viewers = b.viewers; taken = []; shown = []; held = []; kept = [] }

-- those of lane n, lane n + 1 and so on, in order
abbrev pub new_readers : ℕ → List Blanked → List Heard
new_readers n [] = []
new_readers n (b ∷ bs) = new_reader n b ∷ new_readers (n + 1) bs

abbrev pub new_writers : ℕ → List Blanked → List Written
new_writers n [] = []
new_writers n (b ∷ bs) = new_writer n b ∷ new_writers (n + 1) bs

-- these are all the viewers of the lane of this writer's end, and have seen nothing
abbrev pub AreItsViewers : Written → List Watched → Type 0
AreItsViewers w vs = AllNew w.lane vs × (length vs ≡ w.viewers)
