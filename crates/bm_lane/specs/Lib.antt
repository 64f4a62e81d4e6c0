-- A reader has to believe Ends, what contracts see of a lane, and Hearing, what comes of an event.
-- The same goes for Drains, and for Answers and Looks, what a viewer is answered. It goes for
-- Placed, many lanes at once, for Tallies, what a pool counts, and for Laws.
pub mod Ends
pub mod Hearing
pub mod Drains
pub mod Answers
pub mod Looks
pub mod Placed
pub mod Tallies
pub mod Laws
-- The others only help proofs: the rules of the queue, of the history and of the published copy.
-- They also say what the parts of an end are to a contract. Of them, `HistoryId` of Fronts is to be
-- believed: it is the name of a history. So are `no_queue` and `no_copy` of Names: any name will
-- do.
pub mod Additions
pub mod BookReaders
pub mod Copies
pub mod Fronts
pub mod Histories
pub mod Names
pub mod Relay
