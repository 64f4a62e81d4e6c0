-- To believe: the names of logs, the lines of texts, and what an update carries.
pub mod Names
pub mod Lines
pub mod LineBatches
-- How lists lie in memory, and the places of many names. They help proofs; outside this crate they
-- say what a `NameTable` holds, and no more.
pub mod OneOrMany
pub mod Contents
pub mod Shared
pub mod Places
