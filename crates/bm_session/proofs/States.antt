-- A session after a commit.
use Rattle.std.proofs.Common.{◌≡◌, sym, ◌∙◌, ap, ℕ, ◌+◌, ◌≤◌, true, false, ◌&&◌, [], ◌∷◌, ◌++◌, None, arith}
use Rattle.std.specs.Prelude.{is_none}
use Rattle.bm_session.specs.declared.event.Event.{Event}
use Rattle.bm_session.specs.declared.event.Event.TheVariants.{Cut, Down}
use Rattle.bm_session.specs.Trace.{Trace, is_up, is_cut, was_taken, refusal}
use Rattle.bm_session.specs.Session.{IsSessionState, needed}
use Rattle.bm_session.proofs.Pushed.{is_up-push, is_cut-push}
use Rattle.bm_session.proofs.Taken.{was_taken-push}

taken-next : (t : Trace) (e : Event) → was_taken t ≡ true → refusal t e ≡ None → was_taken (t ++ e ∷ []) ≡ true
taken-next t e h r = was_taken-push t e ∙ ap (λ b. b && is_none (refusal t e)) h ∙ ap (λ o. is_none o) r

while-up : (t : Trace) (e : Event) (room room' : ℕ) → needed e ≤ room → room ≤ room' + 1 → is_up (t ++ e ∷ []) ≡ true → 2 ≤ room'
while-up t Down room room' n m u = let d : is_up (t ++ Down ∷ []) ≡ false = is_up-push t Down in cc
while-up t Cut room room' n m u = let d : is_up (t ++ Cut ∷ []) ≡ false = is_up-push t Cut in cc
while-up t e room room' n m u = omega arith

while-cut : (t : Trace) (e : Event) (room room' : ℕ) → needed e ≤ room → room ≤ room' + 1 → is_cut (t ++ e ∷ []) ≡ true → 1 ≤ room'
while-cut t Down room room' n m u = let d : is_cut (t ++ Down ∷ []) ≡ false = is_cut-push t Down in cc
while-cut t Cut room room' n m u = omega arith
while-cut t e room room' n m u = omega arith

pub state-next : (t t' : Trace) (e : Event) (room room' : ℕ) → was_taken t ≡ true → refusal t e ≡ None → needed e ≤ room → room ≤ room' + 1 → t' ≡ t ++ e ∷ [] → IsSessionState (record { trace = t'; room = room' })
state-next t t' e room room' h r n m same = record {
  taken = ap was_taken same ∙ taken-next t e h r;
  while_up = λ u. while-up t e room room' n m (sym (ap is_up same) ∙ u);
  while_cut = λ u. while-cut t e room room' n m (sym (ap is_cut same) ∙ u);
}

pub needed-some : (e : Event) → 1 ≤ needed e
needed-some Down = omega arith
needed-some Cut = omega arith
needed-some e = omega arith
