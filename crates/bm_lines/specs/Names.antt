-- Names of logs.
use Rattle.std.specs.Prelude.{ℕ, ◌≤◌, List, length, codes}

-- the bytes of a log's name, in UTF-8
abbrev pub Name : Type 0
Name = List ℕ

-- the log of standard output, standard error and headers (Buildbot manual)
abbrev pub stdio : Name
stdio = codes "stdio"

-- a name has 1 to 255 bytes (this project's profile)
pub record IsLogName (n : Name) : Type 0 where
  pub some : 1 ≤ length n
  pub short : length n ≤ 255
