-- The text that a piece is.
use Rattle.std.specs.Prelude.{ℕ, ◌<◌, ◌≤◌, List, length}
use Rattle.json.specs.Print.{escape}
use Rattle.bm_http.specs.declared.long_answer.BodyPiece.{BodyPiece}
use Rattle.bm_http.specs.declared.long_answer.BodyPiece.TheVariants.{Ready, Raw}

abbrev pub piece_text : BodyPiece → List ℕ
piece_text (Ready bytes) = bytes
piece_text (Raw text) = escape text

-- a piece has a byte at least, and one of lines 64 KiB of their text at most
abbrev pub IsBounded : BodyPiece → Type 0
IsBounded (Ready bytes) = 0 < length bytes
IsBounded (Raw text) = (0 < length text) × (length text ≤ 65_536)
