pub mod Books
mod Characters
pub mod Gathering
pub mod Growing
pub mod Looks
pub mod Meaning
pub mod Portions
pub mod Places
mod Rows
pub mod Shelves
pub mod LogTables
pub mod StdioLines
