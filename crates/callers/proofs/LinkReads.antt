-- What a read of a link's socket takes off the bytes at hand.
use Rattle.std.proofs.Common.{◌≡◌, ◌≢◌, ◌∙◌, refl, ap, subst, ℕ, List, [], ◌∷◌, ◌++◌, Option, Some, None, Ok, Err}
use Rattle.std.specs.Io.KnownBytes.{Consumes}
use Rattle.tungstenite.specs.Socket.{Socket, Run, Runs, Reads, Replies, EndsWith, content_of}
use Rattle.tungstenite.specs.Content.{Content, binary}
use Rattle.tungstenite.specs.Failure.{IsIo}
use Rattle.tungstenite.specs.declared.error.Error.{Error}
use Rattle.tungstenite.specs.declared.message.Message.{Message}
use Rattle.websocket.specs.declared.error.Error.{Error as FrameError}
use Rattle.websocket.specs.declared.protocol.frame.codec.FrameStatus.TheVariants.{Complete, Partial}
use Rattle.websocket.specs.Connection.{Connection, Effect, read_step, check_open}
use Rattle.websocket.specs.Frame.{Checked, after_check, decode_frame}
use Rattle.websocket.specs.FrameHeader.{decode_header}

-- no frame stands in no bytes
waits : (checked : Checked FrameError) (n : ℕ) (frame : ℕ × Effect) → after_check checked (Ok (Partial n)) ≢ Ok (Complete frame)
waits (Ok u) n frame h = cc
waits (Err e) n frame h = cc

no_frame : (c : Connection) (frame : ℕ × Effect) → read_step c [] ≢ Ok (Complete frame)
unfolding read_step decode_frame decode_header
no_frame c frame h = waits (check_open c.role c.state) _ frame h

pub no_run : (c : Connection) (run : Run) (c2 : Connection) (left : List ℕ) → Runs c [] run c2 left → run ≡ []
no_run c [] c2 left h = refl
no_run c (p ∷ run) c2 left h = absurd (no_frame c p h.0)

none_taken : (got : List ℕ) (left : Option (List ℕ)) → Consumes (Some []) left got → got ≡ []
none_taken [] left h = refl
none_taken (b ∷ got) None h = absurd h
none_taken (b ∷ got) (Some ys) h = cc

none-appended : (xs ys : List ℕ) → xs ++ ys ≡ [] → ys ≡ []
none-appended [] ys h = h
none-appended (x ∷ xs) ys h = cc

-- the first frame of a run that ends with a message
pub first_is : (c c2 : Connection) (input left : List ℕ) (run : Run) (m : Content) (frame : ℕ × Effect) (bytes : List ℕ)
    → Runs c input run c2 left → EndsWith run m → read_step c input ≡ Ok (Complete frame) → frame.1.message ≡ Some (binary bytes) → m ≡ binary bytes
first_is c c2 input left [] m frame bytes runs ends whole has = absurd ends
first_is c c2 input left (p ∷ []) m frame bytes runs ends whole has =
    let first = runs.0 in
    let same : p ≡ frame = cc in
    let told : p.1.message ≡ frame.1.message = ap (λ (q : ℕ × Effect). q.1.message) same in cc
first_is c c2 input left (p ∷ q ∷ run) m frame bytes runs ends whole has =
    let first = runs.0 in
    let none = ends.0 in
    let same : p ≡ frame = cc in
    let told : p.1.message ≡ frame.1.message = ap (λ (q : ℕ × Effect). q.1.message) same in cc

module _ {S : Type 0} (remaining : S → Option (List ℕ)) where
  -- nothing had come
  abbrev pub IsIdle : Socket S → Type 0
  IsIdle s = (s.input ≡ []) × (remaining s.stream ≡ Some []) × (s.output ≡ [])

  nothing_got : (s : Socket S) (got : List ℕ) (left : Option (List ℕ)) → IsIdle s → Consumes (remaining s.stream) left got → s.input ++ got ≡ []
  nothing_got s got left (input, known, output) taken =
      let none = none_taken got left (subst (λ (k : Option (List ℕ)). Consumes k left got) known taken) in
      ap (λ (bs : List ℕ). bs ++ got) input ∙ none

  pub reads_none : (old new : Socket S) (m : Message) → IsIdle old → Reads remaining old new (Ok m) → ⊥
  reads_none old new m idle (run, got, c, left, sent, runs, gave) =
      let none = nothing_got old got (remaining new.stream) idle (gave.4 idle.2) in
      let empty = no_run old.conn run c left (subst (λ (bs : List ℕ). Runs old.conn bs run c left) none runs) in
      subst (λ (r : Run). EndsWith r (content_of m)) empty gave.0

  pub fails_quietly : (old new : Socket S) (x : Error) → IsIdle old → IsIo x → Reads remaining old new (Err x) → new.output ≡ []
  fails_quietly old new x idle io (run, got, c, left, sent, runs, gave) =
      let none = nothing_got old got (remaining new.stream) idle (gave.4 io idle.2) in
      let empty = no_run old.conn run c left (subst (λ (bs : List ℕ). Runs old.conn bs run c left) none runs) in
      let replies : Replies [] old.output (sent ++ new.output) = subst (λ (r : Run). Replies r old.output (sent ++ new.output)) empty (gave.2 io).2 in
      none-appended sent new.output (replies ∙ idle.2)
