-- What the field `Host` of a request may hold (RFC 9112, 3.2): a host and maybe a port (RFC 3986).
use Rattle.std.specs.Prelude.{◌≡◌, ◌==◌, ◌-◌, ◌<◌, ℕ, Bool, true, false, ◌&&◌, ◌||◌, List, [], ◌∷◌, codes, drop, take, length, IsTrue, MatchBool, ⊤, if◌then◌else◌}
use Rattle.std.specs.Char.{is_ascii_alphanumeric, is_ascii_digit, is_ascii_hexdigit}
use Rattle.std.specs.List.{list_any}
use Rattle.std.specs.Net.Grammar.{IsIpv6Text}
use Rattle.std.specs.Str.{byte}
use Rattle.std.specs.declared.net.ipv6_addr.Ipv6Addr.{Ipv6Addr}

abbrev pub is_mark : ℕ → Bool
is_mark b = list_any (λ c. c == b) (codes "-._~!$&'()*+;=")

-- A byte that stands for itself in a name. A comma doesn't: it may join two fields to one.
unfoldable pub is_name_byte : ℕ → Bool
is_name_byte b = is_ascii_alphanumeric b || is_mark b

-- the text begins with two hexadecimal digits
abbrev pub begins_hex : List ℕ → Bool
begins_hex [] = false
begins_hex (a ∷ []) = false
begins_hex (a ∷ b ∷ rest) = is_ascii_hexdigit a && is_ascii_hexdigit b

-- the byte may stand in a name before this text: for itself, or as the sign of an escape
abbrev pub may_stand : ℕ → List ℕ → Bool
may_stand b rest = is_name_byte b || ((b == byte "%") && begins_hex rest)

abbrev pub are_digits : List ℕ → Bool
are_digits [] = true
are_digits (b ∷ rest) = is_ascii_digit b && are_digits rest

-- nothing, or a colon and digits, of which there may be none
abbrev pub is_port : List ℕ → Bool
is_port [] = true
is_port (b ∷ digits) = (b == byte ":") && are_digits digits

-- a name, which may be empty or an IPv4 address, and a port
abbrev pub is_named : List ℕ → Bool
is_named [] = true
is_named (b ∷ rest) = if may_stand b rest then is_named rest else is_port (b ∷ rest)

-- what stands from the first closing bracket on
abbrev pub from_close : List ℕ → List ℕ
from_close [] = []
from_close (b ∷ rest) = if b == byte "]" then b ∷ rest else from_close rest

-- what stands before it
abbrev pub to_close : List ℕ → List ℕ
to_close text = take (length text - length (from_close text)) text

-- an IPv6 address, a closing bracket and a port
pub record IsBracketed (text : List ℕ) : Type 0 where
  pub address : Ipv6Addr
  pub spelled : IsIpv6Text (to_close text) address
  pub closed : 0 < length (from_close text)
  pub port : IsTrue (is_port (drop 1 (from_close text)))

-- the host and the port that a field may hold; there may be neither
abbrev pub IsHost : List ℕ → Type 0
IsHost [] = ⊤
IsHost (b ∷ rest) = MatchBool (b == byte "[") (IsBracketed rest) (IsTrue (is_named (b ∷ rest)))
