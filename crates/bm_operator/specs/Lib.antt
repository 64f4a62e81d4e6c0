-- All of these must be believed. What the operator writes: the lines of standard input, and the
-- words of a program.
pub mod Cancel
pub mod ProgramWords
-- What the operator reads: names on one line, reasons, the lines of standard output and standard
-- error, and how the master ends.
pub mod OneLine
pub mod Reasons
pub mod OutputLine
pub mod Told
pub mod Remark
pub mod StepEvents
pub mod Exit
-- How many lines a second are let through.
pub mod RateLimit
-- Which refused connections are told one by one.
pub mod RefusalLimit
-- When it is told that something waits.
pub mod WaitNotice
