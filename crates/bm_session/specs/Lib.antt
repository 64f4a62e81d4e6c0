-- A reader has to believe these: public contracts say what they mean by them.
pub mod Events
pub mod Trace
pub mod Seen
pub mod Session
pub mod Heard
pub mod Texts
pub mod Laws
-- These only help proofs: what a session keeps of its trace.
pub mod Ranges
pub mod Table
