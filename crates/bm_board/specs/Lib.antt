-- What a board does, to be believed. First the steps that follow and a build's result, then the
-- locks, a build with its calls, and the board of all builds.
pub mod Steps
pub mod Locks
pub mod ScheduledBuild
pub mod Board
-- What a board counts as it changes. It helps the proofs alone.
pub mod Kept
