pub mod Dealing
pub mod Totalling
