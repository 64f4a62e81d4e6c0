-- Why an event is refused.
use Rattle.std.proofs.Common.{◌≡◌, ap, Bool, true, false, cond, ◌&&◌, Option, Some, None}
use Rattle.std.specs.Prelude.{is_some, nat_le, ◌+◌, ◌∷◌, [], ◌++◌, nat_lt, List, ℕ}
use Rattle.bm_lines.specs.Lines.{Line}
use Rattle.bm_session.specs.declared.event.Event.{Event}
use Rattle.bm_session.specs.declared.event.Event.TheVariants.{Up, Go, Stop, Down}
use Rattle.bm_session.specs.declared.refusal.Refusal.{Refusal}
use Rattle.bm_session.specs.declared.refusal.Refusal.TheVariants.{NotUp, AlreadyUp, TooManyOpen, NoSuchCommand, Full, Mem}
use Rattle.bm_session.specs.Trace.{Trace, first_reason, reason_if, not_up, already_up, too_many_open, no_such_command, full, refusal, item, reply, productive, visible}
use Rattle.bm_store.specs.Laws.{look_at}
use Rattle.bm_world.specs.declared.answer.Answer.TheVariants.{Heard, Refused, Busy, Took, Empty}
use Rattle.bm_world.specs.declared.step.Step.TheVariants.{Hear, Drain, Look}
use Rattle.bm_world.specs.World.{World, Stepped, heard, drained, chunk_answer}
use Rattle.bm_world.specs.Laws.{RefusalsAreNotMemory}

abbrev IsOther : Option Refusal → Type 0
IsOther o = ¬ (o ≡ Some Mem)

first-other : (a b : Option Refusal) → IsOther a → IsOther b → IsOther (first_reason a b)
first-other None b f g = g
first-other (Some r) b f g = f

reason-other : (b : Bool) (r : Refusal) → ¬ (r ≡ Mem) → IsOther (reason_if b r)
reason-other true r f = λ h. f (let same : r ≡ Mem = cc in same)
reason-other false r f = λ h. cc

none-other : IsOther None
none-other = λ h. cc

not_up-other : (t : Trace) (e : Event) → IsOther (not_up t e)
not_up-other t Up = none-other
not_up-other t Down = reason-other _ NotUp (λ h. cc)
not_up-other t e = reason-other _ NotUp (λ h. cc)

already_up-other : (t : Trace) (e : Event) → IsOther (already_up t e)
already_up-other t Up = reason-other _ AlreadyUp (λ h. cc)
already_up-other t e = none-other

too_many_open-other : (t : Trace) (e : Event) → IsOther (too_many_open t e)
too_many_open-other t Go = reason-other _ TooManyOpen (λ h. cc)
too_many_open-other t e = none-other

no_such_command-other : (t : Trace) (e : Event) → IsOther (no_such_command t e)
no_such_command-other t (Stop k) = reason-other _ NoSuchCommand (λ h. cc)
no_such_command-other t e = none-other

full-other : (t : Trace) (e : Event) → IsOther (full t e)
full-other t Down = none-other
full-other t e = reason-other _ Full (λ h. cc)

refusal-other : (t : Trace) (e : Event) → IsOther (refusal t e)
refusal-other t e =
    first-other (not_up t e) _ (not_up-other t e)
    (first-other (already_up t e) _ (already_up-other t e)
    (first-other (too_many_open t e) _ (too_many_open-other t e)
    (first-other (no_such_command t e) (full t e) (no_such_command-other t e) (full-other t e))))

heard-other : (w : World) (e : Event) (o : Option Refusal) → IsOther o → ¬ ((heard w e o).0 ≡ Refused Mem)
heard-other w e (Some r) f = λ h. f (let same : r ≡ Mem = cc in ap Some same)
heard-other w e None f = go (is_some (item w.trace e) && nat_le (w.shown + w.capacity) (productive w.trace))
  where
    go : (b : Bool) → ¬ ((cond {A = Stepped} b (Busy, w) (Heard (reply w.trace e), record { capacity = w.capacity; trace = w.trace ++ e ∷ []; shown = w.shown })).0 ≡ Refused Mem)
    go true = λ h. cc
    go false = λ h. cc

drained-other : (w : World) → ¬ ((drained w).0 ≡ Refused Mem)
drained-other w = go (nat_lt w.shown (productive w.trace))
  where
    go : (b : Bool) → ¬ ((cond {A = Stepped} b (Took, record { capacity = w.capacity; trace = w.trace; shown = w.shown + 1 }) (Empty, w)).0 ≡ Refused Mem)
    go true = λ h. cc
    go false = λ h. cc

looked-other : (off : ℕ) (o : Option (List Line)) → ¬ (chunk_answer off o ≡ Refused Mem)
looked-other off None = λ h. cc
looked-other off (Some ls) = λ h. cc

-- the law: an event is never refused for want of memory
pub refusals_are_not_memory : RefusalsAreNotMemory
refusals_are_not_memory w (Hear e) = heard-other w e (refusal w.trace e) (refusal-other w.trace e)
refusals_are_not_memory w Drain = drained-other w
refusals_are_not_memory w (Look k name off lim) = looked-other off (look_at (visible w.trace w.shown) k name off lim)
