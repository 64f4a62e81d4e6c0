pub mod Snoc
pub mod Pushed
pub mod Taken
pub mod Visible
pub mod Staying
pub mod Words
mod Rows
mod States
pub mod Orders
mod Runs
mod Fields
pub mod Events
mod Merged
mod Inserted
mod Listed
mod Lookups
mod Stepped
pub mod Taking
mod Hearing
mod Logged
