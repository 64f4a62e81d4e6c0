-- The parts of a request's target.
use Rattle.std.specs.Prelude.{ℕ, ◌==◌, bytes_eq, List, [], ◌∷◌, codes, drop, Option, Some, None, option_map, unwrap_or, if◌then◌else◌}
use Rattle.std.specs.List.{before_first, after_first, position_or_len}
use Rattle.std.specs.Option.{option_or}
use Rattle.std.specs.Str.{byte}
use Rattle.std.specs.Str.Lossy.{utf8_lossy}
use Rattle.form_urlencoded.specs.Form.{raw_pairs, decode}
use Rattle.bm_decimal.specs.Decimals.{number_of}

-- what follows a beginning, in a text that begins with it
abbrev pub after_start : List ℕ → List ℕ → Option (List ℕ)
after_start [] text = Some text
after_start (b ∷ start) [] = None
after_start (b ∷ start) (c ∷ text) = if b == c then after_start start text else None

-- what stands from the first slash on
abbrev pub from_slash : List ℕ → List ℕ
from_slash text = drop (position_or_len (λ b. b == byte "/") text) text

-- a path without the scheme and the host that absolute form puts before it
abbrev pub local_path : List ℕ → List ℕ
local_path path = unwrap_or (option_map from_slash (after_start (codes "http://") path)) path

-- the path, which stands before the first question mark, and the query after it
abbrev pub path_of : List ℕ → List ℕ
path_of target = local_path (before_first (λ b. b == byte "?") target)

abbrev pub query_of : List ℕ → List ℕ
query_of target = after_first (λ b. b == byte "?") target

-- the text that a part of a form stands for: a `+` is a space, escapes are bytes, and what isn't
-- UTF-8 is U+FFFD
abbrev pub text_of : List ℕ → List ℕ
text_of part = utf8_lossy (decode part)

-- the value of the last pair with this key
abbrev pub last_value : List ℕ → List (List ℕ × List ℕ) → Option (List ℕ)
last_value key [] = None
last_value key ((k, v) ∷ pairs) =
    option_or (last_value key pairs) (if bytes_eq (text_of k) key then Some (text_of v) else None)

-- the value of a query's last parameter with this key
abbrev pub parameter : List ℕ → List ℕ → Option (List ℕ)
parameter key query = last_value key (raw_pairs query)

-- the number of that parameter, or this one where it is missing; none where it is no number
abbrev pub number_or : ℕ → Option (List ℕ) → Option ℕ
number_or missing None = Some missing
number_or missing (Some text) = number_of text
