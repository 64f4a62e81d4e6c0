-- Laws of what a worker says.
use Rattle.std.specs.Prelude.{◌≡◌, ℕ, ◌+◌, List, ◌++◌, length}
use Rattle.bm_work.specs.Stream.{Report, stream_from, said}

-- What is said later follows with the next numbers. So the requests of all calls of a session, one
-- after the other, are its stream.
abbrev pub StreamsJoin : Type 0
StreamsJoin =
    (n : ℕ) (first second : List Report)
    → stream_from n (first ++ second) ≡ stream_from n first ++ stream_from (n + length first) second

-- What is said later of a command follows what was said.
abbrev pub SaidGrows : Type 0
SaidGrows = (first second : List Report) (k : ℕ) → said (first ++ second) k
    ≡ said first k ++ said second k
