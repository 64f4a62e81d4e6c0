-- To be believed: what lanes, builds and logins are given, by the configuration. Also who has which
-- end of a lane, and what the end of all lanes tells.
pub mod ConfigLists
pub mod Dealt
pub mod Totals
