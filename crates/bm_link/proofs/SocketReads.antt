-- From a read of the socket to what its caller says of it.
use Rattle.std.proofs.Common.{◌≡◌, refl, sym, subst, inl, inr, true, false, List, ℕ, Option, Result, Ok, Err}
use Rattle.std.specs.Result.{IfOk, IfErr}
use Rattle.tungstenite.specs.Content.{binary}
use Rattle.tungstenite.specs.Socket.{Socket, Reads, content_of}
use Rattle.tungstenite.specs.declared.error.Error.{Error}
use Rattle.tungstenite.specs.declared.error.Error.TheVariants as error
use Rattle.tungstenite.specs.declared.message.Message.{Message}
use Rattle.bm_link.specs.declared.fault.LinkFault.{LinkFault}
use Rattle.bm_link.specs.declared.fault.LinkFault.TheVariants.{BadMessage, Closed, Stream}
use Rattle.bm_link.specs.declared.socket.SocketRead.{SocketRead}
use Rattle.bm_link.specs.declared.socket.SocketRead.TheVariants as read
use Rattle.bm_link.specs.Causes.{FailsAtFirst}
use Rattle.bm_link.specs.Faults.{fault_of, is_quiet}
use Rattle.bm_link.specs.SocketReads.{GivesRead, GivesReadError, NoBytesFail, ReadsBinary, ReadsSocket}

quiet_is_stream : (x : Error) → is_quiet x ≡ true → Stream ≡ fault_of x
quiet_is_stream (error.Io cause) quiet = refl
quiet_is_stream _ quiet = cc

module _ {S : Type 0} (remaining contents : S → Option (List ℕ)) (old new : Socket S) where
  -- a message was read, and what it gives is what the read does
  pub read_gives : (mid : Socket S) (m : Message) (r : SocketRead) → Reads remaining old mid (Ok m) → GivesRead contents m mid r new
      → ReadsSocket remaining contents old (Ok r) new
  read_gives mid m (read.Binary bytes) reads (has, same) = (m, subst (λ (s : Socket S). Reads remaining old s (Ok m)) (sym same) reads, has)
  read_gives mid m read.Other reads (over, same) = (m, subst (λ (s : Socket S). Reads remaining old s (Ok m)) (sym same) reads, over)
  read_gives mid m read.Nothing reads none = absurd none
  read_gives mid m read.Closed reads (closes, flushed) = (mid, (m, reads, closes), flushed)

  -- none was read, and so nothing is given but that
  pub error_gives : (x : Error) (r : Result SocketRead LinkFault) → Reads remaining old new (Err x) → GivesReadError x r
      → ReadsSocket remaining contents old r new
  error_gives x (Ok (read.Binary bytes)) reads none = absurd none
  error_gives x (Ok read.Other) reads none = absurd none
  error_gives x (Ok read.Nothing) reads quiet = (x, quiet, reads)
  error_gives x (Ok read.Closed) reads none = absurd none
  error_gives x (Err f) reads (is, loud) = (x, reads, is, loud)

  -- what fails of a first message before its bytes are looked at
  abbrev pub FailsFirst : LinkFault → Type 0
  FailsFirst f = FailsAtFirst NoBytesFail remaining contents old f new

  pub other_fails : ReadsSocket remaining contents old (Ok read.Other) new → FailsFirst BadMessage
  other_fails (m, reads, over) = inr (inr (inl (m, reads, over, refl)))

  pub nothing_fails : ReadsSocket remaining contents old (Ok read.Nothing) new → FailsFirst Stream
  nothing_fails (x, quiet, reads) = inl (x, reads, quiet_is_stream x quiet)

  pub end_fails : ReadsSocket remaining contents old (Ok read.Closed) new → FailsFirst Closed
  end_fails (mid, (m, reads, closes), flushed) = inr (inl (m, mid, reads, closes, flushed, refl))

  pub error_fails : (f : LinkFault) → ReadsSocket remaining contents old (Err f) new → FailsFirst f
  error_fails f (x, reads, is, loud) = inl (x, reads, is)

  module _ {X : Type 0} (Gives : List ℕ → X → Type 0) (Fails : List ℕ → LinkFault → Type 0) where
    -- a fault before the bytes is one of the whole
    pub fails_before : (f : LinkFault) → FailsFirst f → FailsAtFirst Fails remaining contents old f new
    fails_before f (inl failed) = inl failed
    fails_before f (inr (inl closes)) = inr (inl closes)
    fails_before f (inr (inr (inl other))) = inr (inr (inl other))
    fails_before f (inr (inr (inr (bs, m, reads, has, none)))) = absurd none

    -- the bytes give something
    pub gives_first : (bytes : List ℕ) (r : Result X LinkFault) → ReadsBinary remaining old bytes new → IfOk r (Gives bytes)
        → IfOk r (λ x. (bs : List ℕ) × (m : Message) × Reads remaining old new (Ok m) × (content_of m ≡ binary bs) × Gives bs x)
    gives_first bytes (Ok x) (m, reads, has) gives = (bytes, m, reads, has, gives)
    gives_first bytes (Err f) read gives = tt

    -- or they fail
    pub fails_first : (bytes : List ℕ) (r : Result X LinkFault) → ReadsBinary remaining old bytes new → IfErr r (Fails bytes)
        → IfErr r (λ f. FailsAtFirst Fails remaining contents old f new)
    fails_first bytes (Ok x) read fails = tt
    fails_first bytes (Err f) (m, reads, has) fails = inr (inr (inr (bytes, m, reads, has, fails)))
