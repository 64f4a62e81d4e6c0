-- All of these must be believed. Rows: what an input does to one command. Queues: what it does to
-- all of them. Laws: what follows from that, whatever comes.
pub mod Rows
pub mod Queues
pub mod Laws
