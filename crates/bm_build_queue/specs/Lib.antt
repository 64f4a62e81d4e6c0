-- What a build queue does to its board, to be believed.
pub mod BuildQueue
-- The viewers that no build has, and what a build queue says of a cancel, to be believed.
pub mod ViewerPool
pub mod Cancels
-- When a build that has its result holds no open command any more, to be believed.
pub mod HeldBuilds
-- What holds of every board of a build queue, to be believed.
pub mod Laws
-- That each build on its board is one step, which helps the proofs alone.
pub mod Wholes
