-- A reader has to believe World, what a lane answers, and Laws, what is promised of its looks.
-- Keeping, what the code keeps in the place of a cut trace, only helps proofs.
pub mod World
pub mod Laws
pub mod Keeping
