-- Reading a message key by key, as the code does.
use Rattle.std.specs.Prelude.{ℕ, ◌^◌, pos, Bool, not, ◌&&◌, ◌||◌, ◌==◌, List, [], ◌∷◌, length, codes, Option, Some, None, Result, Ok, Err, bytes_eq, nat_lt, slice_index, if◌then◌else◌}
use Rattle.std.specs.Option.{option_map, option_and_then}
use Rattle.std.specs.Str.{all_ascii_digits}
use Rattle.std.specs.Str.Parse.{digits_value}
use Rattle.bm_value.specs.Tree.{Tree, nil, int, str, array, dict}
use Rattle.bm_value.specs.Field.{field}
use Rattle.bm_msg.specs.declared.field.Field.{Field}
use Rattle.bm_msg.specs.declared.fault.MsgError.{MsgError}
use Rattle.bm_msg.specs.declared.fault.MsgError.TheVariants.{NotMap, NoSeq, NoOp, BadArgs}
use Rattle.bm_msg.specs.declared.items.ReadItem.{ReadItem}
use Rattle.bm_msg.specs.declared.field.Field.TheVariants.{Text, Named, Rc}
use Rattle.bm_msg.specs.Items.{text_of, is_log_name, carried_by, fields_of}
use Rattle.bm_msg.specs.Messages.{session_of, is_exception, result_of}
use Rattle.bm_msg.specs.Meaning.{Asked, auth, print, keepalive, get_worker_info, start_command, interrupt_command, shutdown, update, complete, unknown, Meaning, request, response}

-- what an item carries, as fields
abbrev pub carries : Option Field → Option (List Field)
carries (Some f) = Some (f ∷ [])
carries None = Some []

-- an item of a log: none where the name is no log's
abbrev pub named_field : List ℕ → List ℕ → Option (List Field)
named_field name s = if is_log_name name then Some (Named name s ∷ []) else None

-- what an item tells, by texts that lie in the message
abbrev pub seen : ReadItem → Option (List Field)
seen (ReadItem.Text letter s) = Some (Text letter s.now ∷ [])
seen (ReadItem.Named name s) = named_field name.now s.now
seen (ReadItem.Rc z) = Some (Rc z ∷ [])
seen ReadItem.Nothing = Some []
seen ReadItem.Wrong = None

abbrev pub str_of : Tree → Option (List ℕ)
str_of (str s) = Some s
str_of _ = None

abbrev pub text_at : Tree → List ℕ → Option (List ℕ)
text_at t key = option_and_then str_of (field t key)

-- an item of a named log by its two parts
abbrev pub log_item : Tree → Tree → Option (List Field)
log_item n v =
    option_and_then
    (λ name. if is_log_name name then option_map (λ s. Named name s ∷ []) (text_of v) else None)
    (str_of n)

-- an item by its two parts
abbrev pub item_parts : Tree → Tree → Option (List Field)
item_parts n v = option_and_then (λ name. carried_by name v) (str_of n)

abbrev pub seq_of : Tree → Option ℕ
seq_of (int (pos n)) = if nat_lt n (2 ^ 63) then Some n else None
seq_of _ = None

abbrev pub number_at : Tree → Option ℕ
number_at t = option_and_then seq_of (field t (codes "seq_number"))

-- digits, and no 0 in front of others
abbrev pub is_numeral : List ℕ → Bool
is_numeral s =
    nat_lt 0 (length s) && all_ascii_digits s && (not (slice_index s 0 == 48) || length s == 1)

unfoldable pub command_number : List ℕ → Option ℕ
command_number s =
    if is_numeral s && nat_lt (digits_value 10 s) (2 ^ 63) then Some (digits_value 10 s) else None

abbrev pub command_at : Tree → Option ℕ
command_at t = option_and_then command_number (text_at t (codes "command_id"))

abbrev pub items_of : Tree → Option (List Field)
items_of (array ts) = fields_of ts
items_of _ = None

abbrev pub items_at : Tree → Option (List Field)
items_at t = option_and_then items_of (field t (codes "args"))

abbrev pub fault_of : Tree → Option (Option (List ℕ))
fault_of nil = Some None
fault_of (str s) = Some (Some s)
fault_of _ = None

abbrev pub fault_at : Tree → Option (Option (List ℕ))
fault_at t = option_and_then fault_of (field t (codes "args"))

abbrev pub auth_at : Tree → Option Asked
auth_at t =
    option_and_then
    (λ username.
    option_map (λ password. auth username password (session_of (field t (codes "session"))))
    (text_at t (codes "password"))) (text_at t (codes "username"))

abbrev pub update_at : Tree → Option Asked
update_at t = option_and_then (λ command. option_map (update command) (items_at t)) (command_at t)

abbrev pub complete_at : Tree → Option Asked
complete_at t =
    option_and_then (λ command. option_map (complete command) (fault_at t)) (command_at t)

abbrev pub print_at : Tree → Option Asked
print_at t = option_map print (text_at t (codes "message"))

abbrev pub start_at : Tree → Option Asked
start_at t =
    option_and_then
    (λ command.
    option_and_then (λ name. option_map (start_command command name) (field t (codes "args")))
    (text_at t (codes "command_name"))) (command_at t)

abbrev pub interrupt_at : Tree → Option Asked
interrupt_at t =
    option_and_then (λ command. option_map (interrupt_command command) (text_at t (codes "why")))
    (command_at t)

-- what a request with this operation asks, or None where a key is missing or of another kind
unfoldable pub asked_at : List ℕ → Tree → Option Asked
asked_at op t =
    if bytes_eq op (codes "auth") then auth_at t else
    if bytes_eq op (codes "update") then update_at t else
    if bytes_eq op (codes "complete") then complete_at t else
    if bytes_eq op (codes "print") then print_at t else
    if bytes_eq op (codes "keepalive") then Some keepalive else
    if bytes_eq op (codes "get_worker_info") then Some get_worker_info else
    if bytes_eq op (codes "shutdown") then Some shutdown else
    if bytes_eq op (codes "start_command") then start_at t else
    if bytes_eq op (codes "interrupt_command") then interrupt_at t else
    Some (unknown op)

abbrev pub response_at : ℕ → Tree → Meaning
response_at n t =
    let exception = is_exception (field t (codes "is_exception")) in
    response n (result_of exception (field t (codes "result"))) exception

abbrev pub asked_or : ℕ → Option Asked → Result Meaning MsgError
asked_or n (Some a) = Ok (request n a)
asked_or n None = Err (BadArgs n)

abbrev pub op_read : ℕ → List ℕ → Tree → Result Meaning MsgError
op_read n op t =
    if bytes_eq op (codes "response") then Ok (response_at n t)
    else asked_or n (asked_at op t)

abbrev pub with_number : Tree → Option ℕ → Option (List ℕ) → Result Meaning MsgError
with_number t None op = Err NoSeq
with_number t (Some n) None = Err NoOp
with_number t (Some n) (Some op) = op_read n op t

abbrev pub reading : Tree → Result Meaning MsgError
reading (dict ps) = with_number (dict ps) (number_at (dict ps)) (text_at (dict ps) (codes "op"))
reading _ = Err NotMap
