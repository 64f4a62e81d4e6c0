-- What a text in TOML says of a build master, to be believed. These are the keys' names, what a
-- key's value may be, and the configuration or the first key at fault.
pub mod Keys
pub mod Places
pub mod Fields
pub mod Rows
pub mod Config
pub mod Unknown
