-- Which messages can be written, by their parts.
use Rattle.std.specs.Prelude.{ℕ, ◌<◌, ◌^◌, List, [], ◌∷◌, length, Option, Some, None}
use Rattle.bm_value.specs.Tree.{Tree, depth}
use Rattle.bm_value.specs.Limits.{IsShort}
use Rattle.bm_msg.specs.declared.field.Field.{Field}
use Rattle.bm_msg.specs.declared.field.Field.TheVariants.{Text, Named, Rc}
use Rattle.bm_msg.specs.Meaning.{Asked, auth, print, keepalive, get_worker_info, start_command, interrupt_command, shutdown, update, complete, unknown, Meaning, request, response, request_of, response_of}
use Rattle.bm_msg.specs.Trees.{tree_of}
use Rattle.bm_msg.specs.declared.message.Outgoing.{Outgoing}
use Rattle.bm_msg.specs.declared.message.Outgoing.TheVariants.{Request, Response}

-- how deep a request's args nest
abbrev pub args_depth : Asked → ℕ
args_depth (start_command command name args) = depth args
args_depth _ = 0

-- how deep the parts of a message nest
abbrev pub parts_depth : Meaning → ℕ
parts_depth (request n asked) = args_depth asked
parts_depth (response n result exception) = depth result

abbrev pub IsShortField : Field → Type 0
IsShortField (Text letter text) = length text < 2 ^ 32
IsShortField (Named name text) = (length name < 2 ^ 32) × (length text < 2 ^ 32)
IsShortField (Rc z) = Unit {0}

abbrev pub AreShortFields : List Field → Type 0
AreShortFields [] = Unit {0}
AreShortFields (f ∷ fs) = IsShortField f × AreShortFields fs

abbrev pub IsShortOption : Option (List ℕ) → Type 0
IsShortOption None = Unit {0}
IsShortOption (Some s) = length s < 2 ^ 32

abbrev pub IsShortRequest : Asked → Type 0
IsShortRequest (auth username password session) =
    (length username < 2 ^ 32) × (length password < 2 ^ 32) × IsShortOption session
IsShortRequest (print message) = length message < 2 ^ 32
IsShortRequest keepalive = Unit {0}
IsShortRequest get_worker_info = Unit {0}
IsShortRequest shutdown = Unit {0}
IsShortRequest (start_command command name args) = (length name < 2 ^ 32) × IsShort args
IsShortRequest (interrupt_command command why) = length why < 2 ^ 32
IsShortRequest (update command fields) = (length fields < 2 ^ 32) × AreShortFields fields
IsShortRequest (complete command fault) = IsShortOption fault
IsShortRequest (unknown op) = length op < 2 ^ 32

abbrev pub HasShortParts : Meaning → Type 0
HasShortParts (request n asked) = IsShortRequest asked
HasShortParts (response n result exception) = IsShort result

-- a message that is to be written, and its tree
abbrev pub outgoing : Outgoing → Meaning
outgoing (Request m) = request_of m.now
outgoing (Response m) = response_of m.now

unfoldable pub outgoing_tree : Outgoing → Tree
outgoing_tree m = tree_of (outgoing m)
