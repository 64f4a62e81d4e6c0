-- To believe: what items make of the logs of commands and what a book answers, and the laws that
-- tie books to traces.
pub mod Book
pub mod Portions
pub mod Laws
-- How a book lies in memory. To believe of Kept: `logs_in`, by which public clauses say what logs a
-- book means, with `logs_kept`, `blocks_of`, and the records `Kept` and `Named`. A clause of
-- `Book::apply` and a law cite `kept_after` too. What that means needs no belief: the clause `logs`
-- and the law tie it to Book's `after_item`. All else of Kept, and Placing, only helps proofs.
pub mod Kept
pub mod Placing
