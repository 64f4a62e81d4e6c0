-- What a worker says and answers, to be believed. Here are the texts of a pipe, the words of a
-- command, the answers and their bytes. Then come the requests and their order, and what each call
-- does.
pub mod Cuts
pub mod Argv
pub mod WorkerAnswers
pub mod Replies
pub mod Stream
pub mod Reports
pub mod Core
-- Laws over these definitions; each is the contract of a function in `laws`.
pub mod TextLaws
pub mod StreamLaws
-- What an assembler holds, and what is noted in a worker's history. They help the proofs alone.
pub mod Assembling
pub mod Notes
