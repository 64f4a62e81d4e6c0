mod Joining
pub mod Hosts
