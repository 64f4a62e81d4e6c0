-- To believe: with which builds a master begins, what a line of standard input asks for, and when
-- the web ends.
pub mod Beginnings
pub mod InputLines
pub mod Stopping
