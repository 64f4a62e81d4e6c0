-- Laws of sessions whose worker missed the answer `new`.
use Rattle.std.specs.Prelude.{◌≡◌, ◌⊎◌, ℕ, List, Option, Some, Result, Ok, Err}
use Rattle.tungstenite.specs.Socket.{Socket}
use Rattle.bm_lane.specs.Ends.{Heard}
use Rattle.bm_link.specs.declared.attaching.Attached.{Attached}
use Rattle.bm_link.specs.declared.attaching.Attached.TheVariants.{New}
use Rattle.bm_link.specs.declared.credentials.Named.{Named}
use Rattle.bm_link.specs.declared.fault.LinkFault.{LinkFault}
use Rattle.bm_link.specs.declared.ending.Stage.{Stage}
use Rattle.bm_link.specs.Attaching.{Attaches}
use Rattle.bm_link.specs.Carries.{Carried}

-- what a lane keeps is not the session of this text
abbrev pub IsNot : List ℕ → Carried → Type 0
IsNot old carry = ¬ (carry.text ≡ Some old)

-- the login asks to resume this text, and has another one for a session that begins
abbrev pub NamesBoth : List ℕ → List ℕ → Named → Type 0
NamesBoth old next login =
    (login.session ≡ Some old) × (login.next ≡ Some next) × (¬ (next ≡ old))

module _ {S : Type 0} where
  -- behind the answer `new` the lane doesn't keep the session that the login asked for
  abbrev pub NewIsAnother : (S → Option (List ℕ)) → Type 0
  NewIsAnother contents = (old next : List ℕ) (login : Named) (s s2 : Socket S)
      → (lane lane2 : Heard) (carry carry2 : Carried) → NamesBoth old next login
      → Attaches contents login s lane carry (Ok New) s2 lane2 carry2 → IsNot old carry2

  -- nor where a session began although the answer was not sent
  abbrev pub UnsentIsAnother : (S → Option (List ℕ)) → Type 0
  UnsentIsAnother contents = (old next : List ℕ) (login : Named) (s s2 : Socket S)
      → (lane lane2 : Heard) (carry carry2 : Carried) (back : Stage × LinkFault)
      → NamesBoth old next login → Attaches contents login s lane carry (Err back) s2 lane2 carry2
      → (carry2 ≡ carry) ⊎ IsNot old carry2

  -- and it comes to keep it by no login of that worker
  abbrev pub StaysAnother : (S → Option (List ℕ)) → Type 0
  StaysAnother contents = (old next : List ℕ) (login : Named) (s s2 : Socket S)
      → (lane lane2 : Heard) (carry carry2 : Carried) (r : Result Attached (Stage × LinkFault))
      → NamesBoth old next login → IsNot old carry
      → Attaches contents login s lane carry r s2 lane2 carry2 → IsNot old carry2

  -- while it keeps another, whoever asks for that text is answered `new`
  abbrev pub AnswersNew : (S → Option (List ℕ)) → Type 0
  AnswersNew contents = (old : List ℕ) (login : Named) (s s2 : Socket S)
      → (lane lane2 : Heard) (carry carry2 : Carried) (a : Attached) → login.session ≡ Some old
      → IsNot old carry → Attaches contents login s lane carry (Ok a) s2 lane2 carry2 → a ≡ New
