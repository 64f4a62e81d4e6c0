-- Hex digits of a script, and the bytes that they write.
use Rattle.std.specs.Prelude.{◌≡◌, ℕ, ◌==◌, List, Ok, filter, not}
use Rattle.hex.specs.Hex.{decode_of}

-- the text without its spaces, which are the bytes 32
abbrev pub without_spaces : List ℕ → List ℕ
without_spaces text = filter (λ b. not (b == 32)) text

-- without its spaces the text is two hex digits of either case for each of the bytes, and nothing
-- else
abbrev pub Write : List ℕ → List ℕ → Type 0
Write text bytes = decode_of (without_spaces text) ≡ Ok bytes
