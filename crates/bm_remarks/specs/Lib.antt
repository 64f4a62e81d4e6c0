-- To believe: which remarks are told, in which form, and what becomes of the count of refused
-- connections.
pub mod Tellings
pub mod Forms
pub mod Refusals
