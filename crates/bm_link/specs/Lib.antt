-- A reader has to believe these. Link: what a master's link is, and what a turn of it does.
pub mod Link
-- Of what a turn is made: what is read, what is sent, and which event bytes are.
pub mod Parts
pub mod Incoming
pub mod Sending
-- Why a link fails, and what then becomes of its lane.
pub mod Causes
pub mod Faults
pub mod Endings
-- From a handshake and a login to a lane that is up.
pub mod Accepting
pub mod Users
pub mod Logins
pub mod Telling
pub mod Attaching
-- How long the texts may be that a message carries.
pub mod Texts
-- What a master sends unasked, its pings and closes, and what a lane keeps from one link to the
-- next.
pub mod Orders
pub mod Asks
pub mod Asking
pub mod Control
pub mod Carries
-- The worker's end: its login, and what a turn of its link does.
pub mod Greeting
pub mod Received
pub mod Working
-- What is sent beside messages: pings, and close frames.
pub mod Frames
-- Laws of what is kept for the next link, and of what a fault leaves behind it. Laws of messages
-- with short texts, and of sessions that nobody heard of.
pub mod Laws
pub mod LawsOfFaults
pub mod LawsOfTexts
pub mod LawsOfSessions
-- These only help proofs: what a read gives, and what a part of a call does. So do, of the others,
-- `IsLimited`, `Clears`, `GoesUp`, `unread_fault`, `is_login`, `IsLogin`, `AdmitsOrFails`,
-- `IsKeptAs`, `ReadsNext`, `GivesNext`, `HasNumber`, `items_of`, `Hears`, `HearsBytes`,
-- `HearsMessage`, `IsAnswerIn`, `IsRefusalIn`, `IsNoAnswerIn` and `Responds`.
pub mod SocketReads
pub mod Steps
