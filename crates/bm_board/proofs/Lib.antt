pub mod Uses
pub mod LockCounts
pub mod Places
pub mod Keeping
pub mod Starting
pub mod Trying
pub mod Waiting
pub mod Counting
mod Examples
