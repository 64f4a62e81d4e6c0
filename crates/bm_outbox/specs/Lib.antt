-- A reader has to believe these. OutboxEntries and Telling: what waits to be told, in which order,
-- and what telling it does to the worker's core.
pub mod OutboxEntries
pub mod Telling
-- What is said of a command: its header lines, the texts of its pipes, why it can't be started, and
-- its end.
pub mod Headers
pub mod Faults
pub mod Joining
pub mod Pieces
pub mod Pipes
pub mod Opening
pub mod Stopping
-- What is done about a silent master, and how often a worker connects again.
pub mod Keepalives
pub mod Tries
-- How much of a pipe is shown at once. It helps the proofs alone.
pub mod Stretches
