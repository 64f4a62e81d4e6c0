-- Who may log in.
use Rattle.std.specs.Prelude.{ℕ, Bool, ◌&&◌, List, bytes_eq, position, Option}
use Rattle.bm_link.specs.declared.user.User.{User}

-- the user has this name and this password
abbrev pub is_user : List ℕ → List ℕ → User → Bool
is_user name password user = bytes_eq user.name name && bytes_eq user.password password

-- the place of the first user with this name and this password
abbrev pub place_of : List User → List ℕ → List ℕ → Option ℕ
place_of users name password = position (is_user name password) users
