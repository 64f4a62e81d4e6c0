-- When readers of long answers give way to others.
use Rattle.std.specs.Prelude.{ℕ, Bool, nat_lt}

-- an answer of which more than a mebibyte was told gives way before each further piece
abbrev pub gives_way : ℕ → Bool
gives_way told_bytes = nat_lt 1048576 told_bytes
