-- A reader has to believe all of them: what a run of steps means, what a port keeps of it, and a
-- step's place.
pub mod Port
pub mod Run
pub mod Entries
pub mod StepPlaces
