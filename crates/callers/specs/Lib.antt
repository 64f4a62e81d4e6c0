-- What clauses of the callers name: events of a lane, requests of a worker, what a link's socket
-- has and sends.
pub mod LaneEvents
pub mod SessionEvents
pub mod Link
