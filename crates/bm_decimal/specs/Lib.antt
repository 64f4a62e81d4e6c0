-- To believe: which number a text writes.
pub mod Decimals
