-- For how long the thread of a build is tried to be started, to be believed.
pub mod BuildStarts
pub mod Unstarted
-- The builds that hold their slots although they have their results, to be believed.
pub mod Held
-- What comes of a master's builds, to be believed.
pub mod Builds
-- What a master does next, and how long it waits, to be believed.
pub mod Flow
-- What is to be done about a worker, to be believed.
pub mod KnownWorkers
-- What a master does at an input, and what each of its effects says, to be believed.
pub mod Masters
