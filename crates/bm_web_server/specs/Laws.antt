-- What frames that tell a text are, joined.
use Rattle.std.specs.Prelude.{◌≡◌, ℕ, List, None, map, Ok, Result}
use Rattle.std.specs.List.{concat}
use Rattle.http_body.specs.declared.frame.Frame.{Frame}
use Rattle.http_body.specs.Frame.{data_frame}
use Rattle.bm_http.specs.declared.long_answer.PieceError.{PieceError}
use Rattle.bm_web_server.specs.Tells.{Tells}

abbrev pub frames_of : List (List ℕ) → List (Result (Frame (List ℕ)) PieceError)
frames_of pieces = map (λ piece. Ok (data_frame piece)) pieces

-- pieces that tell a text to its end are the text, joined
abbrev pub PiecesAreTheText : Type 0
PiecesAreTheText = (text : List ℕ) (pieces : List (List ℕ)) → Tells text (frames_of pieces) None → concat pieces ≡ text
