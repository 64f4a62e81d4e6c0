pub mod Lists
pub mod Sessions
pub mod Agreement
pub mod Quiet
pub mod Requests
pub mod Starts
pub mod Acts
pub mod Logged
mod Settled
mod OtherNames
mod ScheduleExamples
mod Links
mod StreamNumbers
mod Connections
mod OneSession
mod Resumptions
mod ResumedExamples
pub mod Bytes
pub mod HeardBytes
mod WireExamples
pub mod SmallNumbers
mod Lines
mod Words
