-- What a reader has to believe, since public contracts speak of it.
pub mod Tree
pub mod View
pub mod Num
pub mod Row
pub mod Spelling
pub mod Decoding
pub mod Writing
pub mod Limits
pub mod Field
pub mod Laws
-- What helps proofs: how the code reads, which is proved to agree with Spelling. Of it, public
-- contracts cite `Gives` and `Refuses` alone.
pub mod Reading
