-- Logins are read back as they were meant: by the master a login, and by its worker the answer to
-- it.
use Rattle.std.specs.Prelude.{◌≡◌, ◌≤◌, ℕ, List, [], ◌∷◌, length, Option, Some, None}
use Rattle.std.specs.Str.{IsUtf8}
use Rattle.bm_msg.specs.Trees.{answer_bytes}
use Rattle.bm_link.specs.Attaching.{login_bytes}
use Rattle.bm_link.specs.Greeting.{auth_bytes, AreAnswer, AreRefusal}
use Rattle.bm_link.specs.Logins.{AreLogin}
use Rattle.bm_link.specs.declared.attaching.Attached.{Attached}
use Rattle.bm_wired.specs.ReadBack.{IsTellable}
use Rattle.bm_wired.specs.Wired.{AreSendable}

-- no session is named, or one by a text in UTF-8 of 1 to 64 bytes
abbrev pub IsNameable : Option (List ℕ) → Type 0
IsNameable None = Unit {0}
IsNameable (Some session) = IsUtf8 session × (1 ≤ length session) × (length session ≤ 64)

-- The bytes of a login are read as a login. Whatever login a master reads in them, it is request 0.
-- It has this name and password, this session to resume, and this text for a new one.
abbrev pub LoginsAreRead : Type 0
LoginsAreRead =
    (name password : List ℕ) (session next : Option (List ℕ))
    → AreSendable (name ∷ password ∷ []) → IsNameable session → IsNameable next
    → ((l : _) × AreLogin (auth_bytes name password session next) l)
    × ((l : _) → AreLogin (auth_bytes name password session next) l
    → (l.named.seq ≡ 0) × (l.username ≡ name) × (l.password ≡ password)
    × (l.named.session ≡ session) × (l.named.next ≡ next))

-- The answer to a login tells the worker how its lane was taken up, and no other way. It is no
-- exception.
abbrev pub LoginAnswersAreRead : Type 0
LoginAnswersAreRead =
    (a : Attached)
    → AreAnswer (login_bytes 0 a) a × ((b : Attached) → AreAnswer (login_bytes 0 a) b → b ≡ a)
    × ¬ AreRefusal (login_bytes 0 a)

-- An exception refuses the login, and takes up no lane.
abbrev pub LoginRefusalsAreRead : Type 0
LoginRefusalsAreRead =
    (why : List ℕ) → IsTellable (Some why)
    → AreRefusal (answer_bytes 0 (Some why))
    × ((a : Attached) → ¬ AreAnswer (answer_bytes 0 (Some why)) a)
