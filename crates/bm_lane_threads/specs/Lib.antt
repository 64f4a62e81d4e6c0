-- To believe: when a login is late, and how long the acceptor waits.
pub mod Arrivals
