-- A worker that missed `new` never resumes the session that began.
use Rattle.std.proofs.Common.{◌≡◌, ◌∙◌, ◌⊎◌, refl, sym, ap, inl, inr, ℕ, Bool, true, false, ◌&&◌, List, Option, Some, None, Result, Ok, Err}
use Rattle.std.specs.Prelude.{bytes_eq}
use Rattle.std.proofs.lemmas.Slice.Eq.{bytes_eq-Decides}
use Rattle.tungstenite.specs.Socket.{Socket}
use Rattle.bm_session.specs.Trace.{Trace, is_cut}
use Rattle.bm_lane.specs.Ends.{Heard}
use Rattle.bm_link.specs.declared.attaching.Attached.{Attached}
use Rattle.bm_link.specs.declared.attaching.Attached.TheVariants.{New}
use Rattle.bm_link.specs.declared.credentials.Named.{Named}
use Rattle.bm_link.specs.declared.fault.LinkFault.{LinkFault}
use Rattle.bm_link.specs.declared.ending.Stage.{Stage}
use Rattle.bm_link.specs.Attaching.{Attaches, AttachesAs, attached_as, beginning, resumes}
use Rattle.bm_link.specs.Carries.{Carried, begun, carried_with, is_same, kept_text}
use Rattle.bm_link.specs.LawsOfSessions.{AnswersNew, IsNot, NamesBoth, NewIsAnother, StaysAnother, UnsentIsAnother}

-- ---- texts

other-bytes : (kept old : List ℕ) (b : Bool) → bytes_eq kept old ≡ b → ¬ (Some kept ≡ Some old) → bytes_eq kept old ≡ false
other-bytes kept old true e h = absurd (h (ap (λ (t : List ℕ). Some t) ((bytes_eq-Decides kept old).0 e)))
other-bytes kept old false e h = e

other-text : (kept : Option (List ℕ)) (old : List ℕ) → ¬ (kept ≡ Some old) → is_same kept (Some old) ≡ false
other-text None old h = refl
other-text (Some kept) old h = other-bytes kept old (bytes_eq kept old) refl h

never : (b : Bool) → (b && false) ≡ false
never true = refl
never false = refl

not-resumed : (t : Trace) (carry : Carried) (old : List ℕ) → IsNot old carry → resumes t carry (Some old) ≡ false
not-resumed t carry old h = ap (λ (b : Bool). is_cut t && b) (other-text carry.text old h) ∙ never (is_cut t)

-- ---- what is kept

own-text : (resumable : Bool) (old next : List ℕ) → ¬ (next ≡ old) → ¬ (kept_text resumable (Some next) ≡ Some old)
own-text true old next differs is = let same : next ≡ old = cc in differs same
own-text false old next differs is = cc

begun-anew : (login : Named) (old next : List ℕ) (carry carry2 : Carried) → NamesBoth old next login → carry2 ≡ begun carry (beginning login.session login.next)
    → IsNot old carry2
begun-anew login old next carry carry2 (s, n, differs) is kept =
    let text : beginning login.session login.next ≡ Some next =
    ap (λ (x : Option (List ℕ)). beginning x login.next) s ∙ ap (λ (x : Option (List ℕ)). beginning (Some old) x) n in
    own-text carry.resumable old next differs
    (sym (ap (λ (c : Carried). c.text) is ∙ ap (λ (x : Option (List ℕ)). kept_text carry.resumable x) text) ∙ kept)

kept-or-anew : (resumed : Bool) (login : Named) (old next : List ℕ) (carry carry2 : Carried) → NamesBoth old next login
    → carry2 ≡ carried_with resumed carry (beginning login.session login.next) → (carry2 ≡ carry) ⊎ IsNot old carry2
kept-or-anew true login old next carry carry2 both is = inl is
kept-or-anew false login old next carry carry2 both is = inr (begun-anew login old next carry carry2 both is)

-- where the answer is `new`, a session began
new-began : (resumed : Bool) (named begins : Option (List ℕ)) (carry carry2 : Carried) → New ≡ attached_as resumed named → carry2 ≡ carried_with resumed carry begins
    → carry2 ≡ begun carry begins
new-began true named begins carry carry2 told is = cc
new-began false named begins carry carry2 told is = is

still-another : (old : List ℕ) (carry carry2 : Carried) → IsNot old carry → (carry2 ≡ carry) ⊎ IsNot old carry2 → IsNot old carry2
still-another old carry carry2 h (inl same) = λ kept. h (sym (ap (λ (c : Carried). c.text) same) ∙ kept)
still-another old carry carry2 h (inr other) = other

-- ---- logins

module _ {S : Type 0} (contents : S → Option (List ℕ)) where
  unsent : (resumed : Bool) (old next : List ℕ) (login : Named) (s s2 : Socket S) (lane lane2 : Heard) (carry carry2 : Carried) (back : Stage × LinkFault)
      → NamesBoth old next login → AttachesAs contents resumed login s lane carry (Err back) s2 lane2 carry2 → (carry2 ≡ carry) ⊎ IsNot old carry2
  unsent resumed old next login s s2 lane lane2 carry carry2 back both (inl (failed, refuses, same)) = inl same
  unsent resumed old next login s s2 lane lane2 carry carry2 back both (inr (ends, is, fails)) = kept-or-anew resumed login old next carry carry2 both is

  pub unsent_is_another : UnsentIsAnother contents
  unsent_is_another old next login s s2 lane lane2 carry carry2 back both h =
      unsent (resumes lane.trace carry login.session) old next login s s2 lane lane2 carry carry2 back both h

  pub new_is_another : NewIsAnother contents
  new_is_another old next login s s2 lane lane2 carry carry2 both (told, up, is, sent) =
      begun-anew login old next carry carry2 both
      (new-began (resumes lane.trace carry login.session) login.session (beginning login.session login.next) carry carry2 told is)

  pub stays_another : StaysAnother contents
  stays_another old next login s s2 lane lane2 carry carry2 (Ok a) both other (told, up, is, sent) =
      still-another old carry carry2 other (kept-or-anew (resumes lane.trace carry login.session) login old next carry carry2 both is)
  stays_another old next login s s2 lane lane2 carry carry2 (Err back) both other h =
      still-another old carry carry2 other (unsent_is_another old next login s s2 lane lane2 carry carry2 back both h)

  pub answers_new : AnswersNew contents
  answers_new old login s s2 lane lane2 carry carry2 a named other (told, up, is, sent) =
      told
      ∙ (ap (λ (n : Option (List ℕ)). attached_as (resumes lane.trace carry n) n) named
      ∙ ap (λ (b : Bool). attached_as b (Some old)) (not-resumed lane.trace carry old other))
