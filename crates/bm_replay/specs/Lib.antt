-- A reader has to believe all of these. What a worker and its lane do, connection after connection
pub mod Schedule
-- the same over connections that are cut and resumed
pub mod Resumed
-- what then holds of logs
pub mod Laws
-- that the bytes of a message are the event which a schedule delivers
pub mod Wire
-- what hex digits write
pub mod Hex
-- what the words of the command line ask for
pub mod Capacities
pub mod Arguments
-- what each line of a script is
pub mod Script
