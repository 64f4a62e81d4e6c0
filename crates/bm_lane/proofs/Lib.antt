mod Adding
mod Chains
mod Draining
mod Grows
mod Hearing
mod Kept
mod Marks
pub mod Picking
pub mod Prefixes
mod Relays
mod Counting
mod Served
mod Writing
