-- What a table has at a key: a value that the key takes, or the key at fault.
use Rattle.std.specs.Prelude.{ℕ, ℤ, pos, negsuc, nat_le, ◌&&◌, Bool, if◌then◌else◌, List, [], ◌∷◌, Option, Some, None, option_and_then, Result, Ok, Err}
use Rattle.std.specs.declared.net.socket_addr.SocketAddr.{SocketAddr}
use Rattle.std.specs.Net.Grammar.{IsSocketText}
use Rattle.toml.specs.Data.{Data, Items, no_items, item, Members, get_member, as_str, as_integer, as_bool}
use Rattle.bm_config.specs.declared.keys.Key.{Key}
use Rattle.bm_config.specs.Keys.{name_of}

-- the value at a key, if there is one
abbrev pub find : Key → Members → Option Data
find key members = get_member (name_of key) members

-- what the value means, and the key at fault where it means nothing that the key takes
abbrev pub or_fault : {A : Type 0} → Key → Option A → Result A Key
or_fault key (Some a) = Ok a
or_fault key None = Err key

-- what the value means that may be there, and this where there is none
abbrev pub meant_or : {A : Type 0} → Key → A → (Data → Option A) → Option Data → Result A Key
meant_or key missing meaning None = Ok missing
meant_or key missing meaning (Some d) = or_fault key (meaning d)

-- the text at a key, if there is one
abbrev pub text_in : Key → Members → Option (List ℕ)
text_in key members = option_and_then as_str (find key members)

-- the text at a key
abbrev pub text_at : Key → Members → Result (List ℕ) Key
text_at key members = or_fault key (text_in key members)

-- a number from `low` to `high`
abbrev pub within : ℕ → ℕ → ℤ → Option ℕ
within low high (pos n) = if nat_le low n && nat_le n high then Some n else None
within low high (negsuc n) = None

-- the number at a key
abbrev pub number_at : ℕ → ℕ → ℕ → Key → Members → Result ℕ Key
number_at low high missing key members =
    meant_or key missing (λ d. option_and_then (within low high) (as_integer d)) (find key members)

-- the flag at a key
abbrev pub flag_at : Bool → Key → Members → Result Bool Key
flag_at missing key members = meant_or key missing as_bool (find key members)

-- the elements of an array
abbrev pub list_of : Items → List Data
list_of no_items = []
list_of (item d ds) = d ∷ list_of ds

-- The text writes this address; None where there is no text, or it writes none. It is a relation,
-- since the toolchain's grammar of socket addresses is one.
abbrev pub IsAddressOf : Option (List ℕ) → Option SocketAddr → Type 0
IsAddressOf (Some text) (Some address) = IsSocketText text address
IsAddressOf (Some text) None = (address : SocketAddr) → ¬ (IsSocketText text address)
IsAddressOf None (Some address) = ⊥
IsAddressOf None None = Unit {0}
