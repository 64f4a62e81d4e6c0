-- All of these must be believed. The table of a latent worker and what it counts:
pub mod Latent
-- what a master knows of a worker, and what it does after each event;
pub mod WorkerState
-- a worker as its master drives it, with its program, and what follows of that, whatever comes;
pub mod WorkerMachine
pub mod MachineLaws
-- how a process that is to end is ended, for how long a start is tried, and how ticks are counted.
pub mod Deadline
pub mod StartTries
pub mod TickCounter
