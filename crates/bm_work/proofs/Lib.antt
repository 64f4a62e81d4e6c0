mod Ends
mod Pieces
mod TextLaws
mod AnswerMaps
mod Strs
mod Streams
mod Unanswered
mod Cores
mod Examples
mod Sizes
mod TextUpdates
pub mod Crossing
mod Walks
