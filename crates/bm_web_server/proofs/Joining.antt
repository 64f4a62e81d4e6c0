-- Pieces that tell a text are the text, joined.
use Rattle.std.proofs.Common.{◌≡◌, ℕ, List, [], ◌∷◌, ◌++◌, None, Some, Ok, Option, Result, refl, sym, ap, ◌∙◌, inl, inr}
use Rattle.std.specs.List.{concat, AllZip}
use Rattle.http_body.specs.declared.frame.Frame.{Frame}
use Rattle.http_body.specs.Frame.{trailers_frame, data_of}
use Rattle.http.specs.declared.request.Parts as Asked
use Rattle.http.specs.declared.response.Parts.{Parts}
use Rattle.http.specs.Response.{body_of}
use Rattle.hyper.specs.Message.{Whole}
use Rattle.hyper.specs.Served.{Words, IsBodiless, IsGiven, frames_of as pieces_as_frames}
use Rattle.bm_http.specs.declared.long_answer.PieceError.{PieceError}
use Rattle.bm_web_server.specs.Tells.{Tells}
use Rattle.bm_web_server.specs.Laws.{PiecesAreTheText}

ended : (E : Type 0) (text : List ℕ) (pieces : List (List ℕ)) → Tells {E = E} text (pieces_as_frames pieces) None → concat pieces ≡ text
ended E text [] h = sym h
ended E text (p ∷ ps) h =
    let bytes : Some p ≡ Some h.0 = ap (λ (x : Frame (List ℕ)). data_of x) h.2 in
    let same : p ≡ h.0 = cc bytes in
    ap (λ t. p ++ t) (ended E h.1 ps h.4) ∙ ap (λ q. q ++ h.1) same ∙ sym h.3

pub pieces_are_the_text : PiecesAreTheText
pieces_are_the_text text pieces h = ended PieceError text pieces h

-- a text is told by data alone
no-trailers : (E : Type 0) (text : List ℕ) (pieces : List (List ℕ)) (f : Frame (List ℕ)) → data_of f ≡ None → Tells {E = E} text (pieces_as_frames pieces) (Some (Ok f)) → ⊥
no-trailers E text [] f none h =
    let bytes : None ≡ Some h.0 = sym none ∙ ap (λ (x : Frame (List ℕ)). data_of x) h.2 in
    absurd (cc bytes)
no-trailers E text (p ∷ ps) f none h = no-trailers E h.1 ps f none h.4

same-pieces : (pieces made : List (List ℕ)) → AllZip (λ d e. e ≡ d) pieces made → made ≡ pieces
same-pieces [] [] h = refl
same-pieces [] (m ∷ ms) h = absurd h
same-pieces (p ∷ ps) [] h = absurd h
same-pieces (p ∷ ps) (m ∷ ms) h = let first = h.0 in let rest = same-pieces ps ms h.1 in cc

-- what a server of `hyper` wrote for a request, where a body may follow: all of the text that this
-- body tells
module _ {S R F B E : Type 0} (w : Words S R F B (List ℕ) PieceError E) (text : B → List ℕ)
    (tells : (b : B) (xs : List (Result (Frame (List ℕ)) PieceError)) (last : Option (Result (Frame (List ℕ)) PieceError)) → w.yields b xs last → Tells (text b) xs last)
    (service : S) (head : Asked.Parts) (written : Whole Parts) where
  pub written_is_told : ((pieces made : List (List ℕ)) → AllZip w.converts pieces made → AllZip (λ d e. e ≡ d) pieces made) → (IsBodiless head written.head → ⊥)
      → (given : IsGiven w service head written) → written.bytes ≡ text (body_of given.response)
  written_is_told converts bodied given =
      elim given.body [
        | inl none ↦ absurd (bodied none.0)
        | inr some ↦
            let joins = some.1 in
            let whole : concat some.0 ≡ text (body_of given.response) =
            elim some.2 [
              | inl all ↦ ended PieceError (text (body_of given.response)) some.0 (tells (body_of given.response) _ _ all.0)
              | inr cut ↦ absurd (no-trailers PieceError (text (body_of given.response)) some.0 (trailers_frame cut.0) refl (tells (body_of given.response) _ _ cut.1))
            ] in
            joins.2 ∙ ap concat (same-pieces some.0 joins.0 (converts some.0 joins.0 joins.1)) ∙ whole
      ]
