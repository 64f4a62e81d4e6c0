-- What a reader has to believe: these files say what a message is, how it is written and what is
-- promised of both.
pub mod Meaning
pub mod Items
pub mod Messages
pub mod Carried
pub mod Answers
pub mod Incoming
pub mod Updates
pub mod Trees
pub mod Laws
-- What only helps proofs: reading key by key, as the code does, and the parts of a tree that can
-- be written. No public call's clause cites them.
pub mod Reading
pub mod Limits
