-- To believe: what is told of a worker's commands, as their machine says.
-- What serving a connection does to the worker's session, and how long one may be silent. Which
-- session a login asks for, and when one that begins by it has another text. Which faults of a
-- start may pass. What the words of the command line ask for, and what a worker does about a
-- connection. By which texts what its commands started is found, and what becomes of a sweep. What
-- is done with processes, and what at a time.
pub mod Turns
pub mod SessionTexts
pub mod Starting
pub mod Arguments
pub mod Connections
pub mod Serving
pub mod Silences
pub mod Marks
pub mod Sweeps
pub mod Carrying
pub mod Ticks
