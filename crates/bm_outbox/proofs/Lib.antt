mod Joins
mod Lengths
mod Lossy
mod Stretches
mod Queue
