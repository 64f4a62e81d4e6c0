mod Rows
pub mod Cuts
pub mod PartLists
pub mod Contents
mod Parts
pub mod FirstPlaces
mod PartTables
