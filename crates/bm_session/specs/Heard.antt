-- What a message of the worker is to its session.
use Rattle.std.specs.Prelude.{◌≡◌, ◌⊎◌, ℕ, ◌<◌, ◌^◌, is_some, Result, Ok, Err}
use Rattle.bm_value.specs.Tree.{Tree}
use Rattle.bm_msg.specs.Carried.{carried, last_rc}
use Rattle.bm_msg.specs.Meaning.{Asked, auth, update, complete, Meaning, request, response}
use Rattle.bm_msg.specs.Messages.{IsMessage, IsFaulty}
use Rattle.bm_msg.specs.declared.fault.MsgError.{MsgError}
use Rattle.bm_msg.specs.declared.fault.MsgError.TheVariants as fault
use Rattle.bm_session.specs.declared.event.Body.{Body}
use Rattle.bm_session.specs.declared.event.Body.TheVariants.{Auth, Update, Complete, BadArgs, NoSuchOp, Answered}
use Rattle.bm_session.specs.declared.event.Event.{Event}
use Rattle.bm_session.specs.declared.event.Event.TheVariants.{In}

-- a login, a complete, or an update by the lines and the exit code that it carries; what only a
-- master asks is none
abbrev pub body_of : Asked → Body
body_of (auth username password session) = Auth
body_of (update command fields) = Update command (carried fields) (last_rc fields)
body_of (complete command fault) = Complete command (is_some fault)
body_of _ = NoSuchOp

-- a request by its body, and a response by whether it is a refusal, each with its number
abbrev pub event_of : Meaning → Event
event_of (request n asked) = In n (body_of asked)
event_of (response n result exception) = In n (Answered exception)

-- the tree is this event: that of its message, or the request whose further keys are at fault
abbrev pub IsEvent : Tree → Event → Type 0
IsEvent t e =
    ((m : Meaning) × IsMessage t m × (e ≡ event_of m))
    ⊎ ((n : ℕ) × IsFaulty t (fault.BadArgs n) × (e ≡ In n BadArgs))

-- what a tree with this fault is: bad arguments are a request
abbrev pub faulty_as : MsgError → Result Event MsgError
faulty_as (fault.BadArgs n) = Ok (In n BadArgs)
faulty_as f = Err f

-- the tree is no event, since it is no message for this first reason
abbrev pub IsNoEvent : Tree → MsgError → Type 0
IsNoEvent t (fault.BadArgs n) = ⊥
IsNoEvent t f = IsFaulty t f

-- a request or a response with a number below 2^63
abbrev pub IsNumbered : Event → Type 0
IsNumbered e = (n : ℕ) × (body : Body) × (e ≡ In n body) × (n < 2 ^ 63)
