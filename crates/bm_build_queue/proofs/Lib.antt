mod Below
pub mod Pools
pub mod Wholes
pub mod Holding
pub mod Starts
mod Listing
mod Staying
