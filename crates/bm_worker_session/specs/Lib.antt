-- A reader has to believe these. Sessions: what a session holds, and what its calls hand to the
-- link.
pub mod Sessions
-- That a link was handed what had no answer when it came to be, and then all that was reported
-- since, in order.
pub mod Laws
