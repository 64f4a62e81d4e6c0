pub mod Places
pub mod Runs
mod Examples
