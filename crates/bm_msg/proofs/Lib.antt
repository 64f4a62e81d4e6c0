mod Rows
pub mod ItemTrees
pub mod FieldLists
pub mod Numerals
pub mod KeyValues
pub mod Operations
pub mod Readings
pub mod Heard
pub mod TreeLists
pub mod Writable
pub mod ReadsBack
pub mod Logins
