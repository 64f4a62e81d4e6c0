mod Keeping
mod Later
mod Refusals
mod Rows
mod Steps
