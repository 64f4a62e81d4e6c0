-- To believe: Serves, what a service of logs answers; Tells, what frames a body gives. Turns, when
-- it gives way to other tasks; Responses, which reply a response is; and Laws.
pub mod Serves
pub mod Tells
pub mod Turns
pub mod Responses
pub mod Laws
