-- How a worker logs in, and what its master answers.
use Rattle.std.specs.Prelude.{◌≡◌, ◌≤◌, ◌⊎◌, ℕ, true, false, List, Option, None, Ok}
use Rattle.tungstenite.specs.Content.{binary}
use Rattle.tungstenite.specs.Socket.{Socket, Reads, content_of}
use Rattle.tungstenite.specs.declared.message.Message.{Message}
use Rattle.bm_value.specs.Spelling.{Spells}
use Rattle.bm_value.specs.Tree.{Tree, depth}
use Rattle.bm_value.specs.Writing.{written}
use Rattle.bm_msg.specs.Meaning.{Meaning, response}
use Rattle.bm_msg.specs.Messages.{IsMessage}
use Rattle.bm_msg.specs.Trees.{login_tree}
use Rattle.bm_link.specs.declared.attaching.Attached.{Attached}
use Rattle.bm_link.specs.Accepting.{IsConnected}
use Rattle.bm_link.specs.Attaching.{IsAttached}
use Rattle.bm_link.specs.Causes.{FailsAtFirst, IsUnsent}
use Rattle.bm_link.specs.Faults.{IsHandshakeFault}
use Rattle.bm_link.specs.Sending.{SendsBytes}
use Rattle.bm_link.specs.declared.fault.LinkFault.{LinkFault}
use Rattle.bm_link.specs.declared.fault.LinkFault.TheVariants.{BadLogin, BadMessage, Mem}

-- the bytes of the login, which is request 0: its name, its password, and the session that it asks
-- to resume. Then the text of a session that begins by it.
unfoldable pub auth_bytes : List ℕ → List ℕ → Option (List ℕ) → Option (List ℕ) → List ℕ
auth_bytes name password session next = written (login_tree name password session next)

-- the message is the response to request 0, and tells this
abbrev pub IsAnswerOf : Meaning → Attached → Type 0
IsAnswerOf m a = (t : Tree) × (m ≡ response 0 t false) × IsAttached t a

-- the message is an exception to request 0
abbrev pub IsRefused : Meaning → Type 0
IsRefused (response n result exception) = (n ≡ 0) × (exception ≡ true)
IsRefused _ = ⊥

-- the message answers the login neither so nor so
abbrev pub IsOther : Meaning → Type 0
IsOther m = ((a : Attached) → ¬ IsAnswerOf m a) × ¬ IsRefused m

-- why a message is no answer: it is an exception to the login, or it is no response to it
abbrev pub IsNoAnswer : Meaning → LinkFault → Type 0
IsNoAnswer m f = ((f ≡ BadMessage) × IsOther m) ⊎ ((f ≡ BadLogin) × IsRefused m)

-- the tree is a message that tells this
abbrev pub IsAnswerIn : Tree → Attached → Type 0
IsAnswerIn t a = (m : Meaning) × IsMessage t m × IsAnswerOf m a

-- the tree is an exception to the login
abbrev pub IsRefusalIn : Tree → Type 0
IsRefusalIn t = (m : Meaning) × IsMessage t m × IsRefused m

-- why a tree is no answer: memory is wanting, it refuses the login, or it says something else
abbrev pub IsNoAnswerIn : Tree → LinkFault → Type 0
IsNoAnswerIn t f =
    (f ≡ Mem)
    ⊎ (((f ≡ BadMessage) × (((a : Attached) → ¬ IsAnswerIn t a) × ¬ IsRefusalIn t))
    ⊎ ((f ≡ BadLogin) × IsRefusalIn t))

-- the bytes spell such a message
abbrev pub AreAnswer : List ℕ → Attached → Type 0
AreAnswer bytes a =
    (t : Tree) × (m : Meaning) × Spells bytes t × (depth t ≤ 32) × IsMessage t m × IsAnswerOf m a

-- the bytes spell an exception to the login
abbrev pub AreRefusal : List ℕ → Type 0
AreRefusal bytes =
    (t : Tree) × (m : Meaning) × Spells bytes t × (depth t ≤ 32) × IsMessage t m × IsRefused m

-- the bytes neither take the login nor refuse it
abbrev pub AreOther : List ℕ → Type 0
AreOther bytes = ((a : Attached) → ¬ AreAnswer bytes a) × ¬ AreRefusal bytes

-- why bytes are no answer to the login: memory is wanting, they refuse it, or they say something
-- else
abbrev pub AreNoAnswer : List ℕ → LinkFault → Type 0
AreNoAnswer bytes f =
    (f ≡ Mem) ⊎ (((f ≡ BadMessage) × AreOther bytes) ⊎ ((f ≡ BadLogin) × AreRefusal bytes))

-- why no WebSocket is agreed: memory is wanting, or the handshake fails
abbrev pub IsNotAgreed : LinkFault → Type 0
IsNotAgreed f = (f ≡ Mem) ⊎ IsHandshakeFault f

module _ {S : Type 0} where
  -- a binary message was read, and its bytes are that answer
  abbrev pub ReadsAnswer : (S → Option (List ℕ)) → Socket S → Socket S → Attached → Type 0
  ReadsAnswer remaining old new a =
      (bs : List ℕ) × (m : Message) × Reads remaining old new (Ok m) × (content_of m ≡ binary bs)
      × AreAnswer bs a

  -- the login was sent, and the answer was read
  abbrev pub Greets : (S → Option (List ℕ)) → (S → Option (List ℕ)) → List ℕ → List ℕ
      → Option (List ℕ) → Option (List ℕ) → Socket S → Socket S → Attached → Type 0
  Greets remaining contents name password session next old new a =
      (mid : Socket S) × SendsBytes contents (auth_bytes name password session next) old mid
      × ReadsAnswer remaining mid new a

  -- why there is no answer: the login was not sent, or the message after it is none
  abbrev pub FailsToGreet : (S → Option (List ℕ)) → (S → Option (List ℕ)) → List ℕ → List ℕ
      → Option (List ℕ) → Option (List ℕ) → Socket S → LinkFault → Socket S → Type 0
  FailsToGreet remaining contents name password session next old f new =
      IsUnsent contents (auth_bytes name password session next) old f new
      ⊎ ((mid : Socket S) × SendsBytes contents (auth_bytes name password session next) old mid
      × FailsAtFirst AreNoAnswer remaining contents mid f new)

  -- why a worker gets no link: no WebSocket is agreed, or the login fails
  abbrev pub FailsToConnect : (S → Option (List ℕ)) → (S → Option (List ℕ)) → List ℕ → List ℕ
      → Option (List ℕ) → LinkFault → Type 0
  FailsToConnect remaining contents name password session f =
      IsNotAgreed f
      ⊎ ((start : Socket S) × (end : Socket S) × IsConnected start
      × FailsToGreet remaining contents name password session None start f end)
