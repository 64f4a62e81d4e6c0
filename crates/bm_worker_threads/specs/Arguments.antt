-- What the words of the command line ask for.
use Rattle.std.specs.Prelude.{ℕ, ◌+◌, nat_le, ◌&&◌, Bool, false, List, [], ◌∷◌, length, Option, Some, None, if◌then◌else◌}
use Rattle.std.specs.Str.{byte}
use Rattle.std.specs.Path.{rsplit_once}
use Rattle.bm_decimal.specs.Decimals.{number_of}
use Rattle.bm_worker_threads.specs.declared.arguments.Arguments.{Arguments}

-- from 1 to 65,535
abbrev pub is_port_number : Option ℕ → Bool
is_port_number (Some number) = nat_le 1 number && nat_le number 65535
is_port_number None = false

-- such a number, written by decimal digits alone
abbrev pub is_port : List ℕ → Bool
is_port text = is_port_number (number_of text)

-- behind its last colon stands a port
abbrev pub is_before_port : Option (List ℕ × List ℕ) → Bool
is_before_port (Some split) = is_port split.1
is_before_port None = false

abbrev pub is_address : List ℕ → Bool
is_address text = is_before_port (rsplit_once (byte ":") text)

-- name and password are short enough together for a login
abbrev pub is_login : List ℕ → List ℕ → Bool
is_login name password = nat_le (length name + length password) 900000

-- the texts that a worker works by
pub record Asked : Type 0 where
  pub address : List ℕ
  pub name : List ℕ
  pub password : List ℕ

-- What the words ask for: the program's name stands before three others, which are an address, a
-- name and a password. All other words ask for nothing.
abbrev pub asked_by : List (List ℕ) → Option Asked
asked_by (program ∷ address ∷ name ∷ password ∷ []) =
    if is_address address && is_login name password
    then Some (record { address = address; name = name; password = password })
    else None
asked_by words = None

-- the texts of arguments
abbrev pub asked_in : Arguments → Asked
asked_in a = record { address = a.address.now; name = a.name.now; password = a.password.now }
