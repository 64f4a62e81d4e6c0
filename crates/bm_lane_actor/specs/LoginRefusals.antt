-- Why a connection was not taken up, and what an operator is told of it.
use Rattle.std.specs.Prelude.{ℕ, Bool, true, false, List, Option, Some, None}
use Rattle.std.specs.declared.net.socket_addr.SocketAddr.{SocketAddr}
use Rattle.bm_session.specs.declared.refusal.Refusal.TheVariants as session
use Rattle.bm_lane.specs.declared.refusals.HearRefusal.TheVariants as lane
use Rattle.bm_link.specs.declared.fault.LinkFault.{LinkFault}
use Rattle.bm_link.specs.declared.fault.LinkFault.TheVariants as link
use Rattle.bm_operator.specs.declared.reasons.LoginRefusal.{LoginRefusal}
use Rattle.bm_operator.specs.declared.reasons.LoginRefusal.TheVariants as why
use Rattle.bm_operator.specs.Remark.{connection_refused, login_refused}
use Rattle.bm_operator.specs.Told.{Told}

-- why a connection whose link met this fault was not taken up
abbrev pub refusal_of : LinkFault → LoginRefusal
refusal_of link.BadLogin = why.BadLogin
refusal_of link.Closed = why.Closed
refusal_of link.Stream = why.Stream
refusal_of link.BadMessage = why.BadMessage
refusal_of link.Full = why.Full
refusal_of (link.Lane lane.Busy) = why.Busy
refusal_of (link.Lane (lane.Session session.AlreadyUp)) = why.AlreadyUp
refusal_of (link.Lane (lane.Session session.Full)) = why.Full
refusal_of f = why.Memory

-- The same before a login. A failed stream may have been the master's end, or its place was given
-- to another connection, or it came too late.
abbrev pub refusal_in : Bool → Bool → Bool → LinkFault → LoginRefusal
refusal_in true is_put_out is_late link.Stream = why.Closing
refusal_in false true is_late link.Stream = why.Crowded
refusal_in false false true link.Stream = why.Late
refusal_in is_over is_put_out is_late f = refusal_of f

-- what is told of a connection that was not taken up, by the name of its login, if that is told
abbrev pub refusal_told : Option (List ℕ) → SocketAddr → LoginRefusal → Told
refusal_told (Some name) from why = login_refused name from why
refusal_told None from why = connection_refused from why
