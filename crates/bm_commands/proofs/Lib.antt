-- Changing: a loop that changes each row, and one that goes over them. Counted: what an input takes
-- of what may still be told. Lawful, Fair, Waking and Waiting: the laws.
mod Changing
pub mod Counted
pub mod Lawful
pub mod Fair
pub mod Waking
pub mod Waiting
