-- The numbers of orders that are taken.
use Rattle.std.proofs.Common.{◌≡◌, refl, ◌+◌, ℕ, ◌≤◌, ◌<◌, ◌^◌, Bool, true, false, not, cond, sym, subst, [], ◌∷◌, ◌++◌, length, None, arith}
use Rattle.std.specs.Prelude.{nat_le}
use Rattle.std.proofs.lemmas.Bool.Decides.{nat_tests}
use Rattle.std.proofs.lemmas.List.{length-append}
use Rattle.bm_session.proofs.Snoc.{snoc_induction}
use Rattle.bm_session.proofs.Pushed.{commands-push}
use Rattle.bm_session.proofs.Taken.{open-is-started}
use Rattle.bm_session.proofs.Taking.{orders_le-length, stop-open}
use Rattle.bm_session.specs.Events.{is_go}
use Rattle.bm_session.specs.declared.event.Event.{Event}
use Rattle.bm_session.specs.declared.event.Body.TheVariants.{Answered}
use Rattle.bm_session.specs.declared.event.Event.TheVariants.{Up, In, Go, Stop, Cut, Down}
use Rattle.bm_session.specs.declared.refusal.Refusal.TheVariants.{NotUp, TooManyOpen, NoSuchCommand, Full}
use Rattle.bm_session.specs.Laws.{IsSmallOrder}
use Rattle.bm_session.specs.Trace.{Trace, commands, orders, refusal, reply, first_reason, reason_if, is_up, is_open, open_commands}

-- no more commands than events
pub commands_le-length : (t : Trace) → commands t ≤ length t
commands_le-length = snoc_induction (λ t. commands t ≤ length t) (omega arith) step
  where
    step : (t : Trace) (e : Event) → commands t ≤ length t → commands (t ++ e ∷ []) ≤ length (t ++ e ∷ [])
    step t e ih =
        let longer : length (t ++ e ∷ []) ≡ length t + 1 = length-append t (e ∷ []) in
        subst (λ n. n ≤ length (t ++ e ∷ [])) (sym (commands-push t e)) (go (is_go e) longer)
      where
        go : (g : Bool) → length (t ++ e ∷ []) ≡ length t + 1 → commands t + cond g 1 0 ≤ length (t ++ e ∷ [])
        go true longer = omega arith
        go false longer = omega arith

room-go : (u o l : Bool) → first_reason (reason_if u NotUp) (first_reason (reason_if o TooManyOpen) (reason_if l Full)) ≡ None → l ≡ false
room-go true o l h = cc
room-go false true l h = cc
room-go false false true h = cc
room-go false false false h = refl

room-stop : (u o l : Bool) → first_reason (reason_if u NotUp) (first_reason (reason_if o NoSuchCommand) (reason_if l Full)) ≡ None → l ≡ false
room-stop true o l h = cc
room-stop false true l h = cc
room-stop false false true h = cc
room-stop false false false h = refl

small : (t : Trace) (n : ℕ) → nat_le 999999 (length t) ≡ false → n ≤ length t → n < 2 ^ 63
small t n h l = grind (arith, nat_tests)

pub orders_are_small : (t : Trace) (e : Event) → refusal t e ≡ None → IsSmallOrder (reply t e)
orders_are_small t Go h =
    let room = room-go (not (is_up t)) (nat_le 4 (length (open_commands t))) (nat_le 999999 (length t)) h in
    (small t (orders t) room (orders_le-length t), small t (commands t) room (commands_le-length t))
orders_are_small t (Stop k) h =
    let room = room-stop (not (is_up t)) (not (is_open t k)) (nat_le 999999 (length t)) h in
    let started : k < commands t = open-is-started t k (stop-open t k h) in
    let few : commands t ≤ length t = commands_le-length t in
    (small t (orders t) room (orders_le-length t), small t k room (omega arith))
orders_are_small t Up h = tt
orders_are_small t Cut h = tt
orders_are_small t Down h = tt
orders_are_small t (In n (Answered fault)) h = tt
orders_are_small t (In n body) h = tt
