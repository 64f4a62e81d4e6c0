-- To believe: what the coordinator hands in to the machine of the master, and when it ends.
pub mod Coordination
-- For how long it waits at the end, and how far the input may be ahead of it. Which build and which
-- cancel is that of a number, and which step a build's thread tells of.
pub mod TickWaits
pub mod Ahead
pub mod Shared
pub mod StepReports
