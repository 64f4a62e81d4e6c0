-- A reader has to believe these. Paths, Targets and HostFields: what stands in a request. Refusals.
-- Requests: what it asks for. Bodies. Replies: what it is answered. Shown: what contracts see of
-- requests, lookups and answers. Laws.
pub mod Paths
pub mod Targets
pub mod HostFields
pub mod Refusals
pub mod Requests
pub mod Bodies
pub mod Replies
pub mod Shown
pub mod Laws
-- LongAnswers: what is left to tell of an answer in pieces. Pieces: the text that a piece is.
-- FirstLooks: what one viewer shows at one look. Placed: viewers at places. WholeOrLong: the reply
-- that an answer tells, whole or in pieces.
pub mod LongAnswers
pub mod Pieces
pub mod FirstLooks
pub mod Placed
pub mod WholeOrLong
-- The others only help proofs: the rows of the router, and the tokens whose texts the bodies are.
pub mod Held
pub mod Tokens
