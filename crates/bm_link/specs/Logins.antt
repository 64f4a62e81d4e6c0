-- What the first message of a connection says, the worker's login, and what comes of it.
use Rattle.std.specs.Prelude.{◌≡◌, ◌≤◌, ◌⊎◌, ℕ, Bool, true, false, List, codes, Option, Some, None, Result, Ok, Err}
use Rattle.tungstenite.specs.Content.{binary}
use Rattle.tungstenite.specs.Socket.{Socket, Reads, content_of}
use Rattle.tungstenite.specs.declared.message.Message.{Message}
use Rattle.bm_value.specs.Spelling.{Spells}
use Rattle.bm_value.specs.Tree.{Tree, depth}
use Rattle.bm_msg.specs.Meaning.{Meaning, request, auth}
use Rattle.bm_msg.specs.Messages.{IsMessage, next_session_of}
use Rattle.bm_link.specs.declared.credentials.Credentials.{Credentials}
use Rattle.bm_link.specs.declared.credentials.Named.{Named}
use Rattle.bm_link.specs.declared.fault.LinkFault.{LinkFault}
use Rattle.bm_link.specs.declared.fault.LinkFault.TheVariants.{BadLogin, Closed}
use Rattle.bm_link.specs.declared.login.Unadmitted.{Unadmitted}
use Rattle.bm_link.specs.declared.login.Unadmitted.TheVariants as unadmitted
use Rattle.bm_link.specs.declared.ending.Stage.{Stage}
use Rattle.bm_link.specs.declared.ending.Stage.TheVariants as stage
use Rattle.bm_link.specs.declared.user.User.{User}
use Rattle.bm_link.specs.Causes.{FailsAtFirst, GivesNone}
use Rattle.bm_link.specs.Link.{LinkState}
use Rattle.bm_link.specs.Telling.{Tells}
use Rattle.bm_link.specs.Users.{place_of}

-- the message is an `auth`
abbrev pub is_login : Meaning → Bool
is_login (request n (auth username password session)) = true
is_login _ = false

-- the message is an `auth` with this number, name, password and session
abbrev pub IsLogin : Meaning → Credentials → Type 0
IsLogin m l = m ≡ request l.named.seq (auth l.username l.password l.named.session)

-- the tree is such a message, and names this next session
abbrev pub IsLoginOf : Tree → Credentials → Type 0
IsLoginOf t l =
    IsMessage t (request l.named.seq (auth l.username l.password l.named.session))
    × (next_session_of t ≡ l.named.next)

-- the bytes spell such a tree
abbrev pub AreLogin : List ℕ → Credentials → Type 0
AreLogin bytes l = (t : Tree) × Spells bytes t × (depth t ≤ 32) × IsLoginOf t l

-- the bytes are no login, or can't be read
abbrev pub GivesNoLogin : List ℕ → LinkFault → Type 0
GivesNoLogin bytes f = GivesNone AreLogin bytes f

module _ {S : Type 0} where
  -- a binary message was read, and its bytes are this login
  abbrev pub ReadsLogin : (S → Option (List ℕ)) → Socket S → Socket S → Credentials → Type 0
  ReadsLogin remaining old new l =
      (bs : List ℕ) × (m : Message) × Reads remaining old new (Ok m) × (content_of m ≡ binary bs)
      × AreLogin bs l

  -- the login that was read is that of the user at this place
  abbrev pub Admits : (S → Option (List ℕ)) → List User → Socket S → ℕ → Named → Socket S → Type 0
  Admits remaining users old place named new =
      (l : Credentials) × ReadsLogin remaining old new l
      × (place_of users l.username l.password ≡ Some place) × (named ≡ l.named)

  -- the login that was read, with this name, is that of no user, and the worker is told so
  abbrev pub Rejects : (S → Option (List ℕ)) → (S → Option (List ℕ)) → List User → Socket S → List ℕ
      → Socket S → Type 0
  Rejects remaining contents users old name new =
      (l : Credentials) × (mid : Socket S) × ReadsLogin remaining old mid l
      × (place_of users l.username l.password ≡ None)
      × (name ≡ l.username) × Tells contents l.named.seq (codes "bad login") mid new

  -- the login of a user was read, or that of none, or no login
  abbrev pub AdmitsOrFails : (S → Option (List ℕ)) → (S → Option (List ℕ)) → List User → Socket S
      → Result (ℕ × Named) Unadmitted → Socket S → Type 0
  AdmitsOrFails remaining contents users old (Ok r) new = Admits remaining users old r.0 r.1 new
  AdmitsOrFails remaining contents users old (Err (unadmitted.Rejected name)) new =
      Rejects remaining contents users old name new
  AdmitsOrFails remaining contents users old (Err (unadmitted.Unread f)) new =
      FailsAtFirst GivesNoLogin remaining contents old f new

  -- why a login fails: it is that of no user, whose name is kept; or none was read
  abbrev pub FailsToLogIn : (S → Option (List ℕ)) → (S → Option (List ℕ)) → List User → LinkState S
      → LinkFault → LinkState S → Type 0
  FailsToLogIn remaining contents users old f new =
      ((f ≡ BadLogin)
      × ((name : List ℕ) × (new.refused ≡ Some name)
      × Rejects remaining contents users old.socket name new.socket))
      ⊎ ((new.refused ≡ old.refused)
      × FailsAtFirst GivesNoLogin remaining contents old.socket f new.socket)

  -- the login of a link on which none was read: it waits for its lane, or the link has failed
  abbrev pub LogsIn : (S → Option (List ℕ)) → (S → Option (List ℕ)) → List User → LinkState S
      → Result ℕ LinkFault → LinkState S → Type 0
  LogsIn remaining contents users old (Ok place) new =
      (named : Named) × Admits remaining users old.socket place named new.socket
      × (new.login ≡ Some named) × (new.stage ≡ stage.Open)
      × (new.refused ≡ old.refused)
  LogsIn remaining contents users old (Err f) new =
      (new.stage ≡ stage.Failed) × (new.login ≡ None)
      × FailsToLogIn remaining contents users old f new

  -- A login: after another, or on a link that is not open, it does nothing. The stage and the login
  -- stand beside the link, since cases go by arguments alone. Each contract gives those of that
  -- very link.
  abbrev pub LogsInAt : (S → Option (List ℕ)) → (S → Option (List ℕ)) → List User → Stage
      → Option Named → LinkState S → Result ℕ LinkFault → LinkState S → Type 0
  LogsInAt remaining contents users stage.Open None old r new =
      LogsIn remaining contents users old r new
  LogsInAt remaining contents users s l old r new = (r ≡ Err Closed) × (new ≡ old)
