-- The laws of a build's steps.
use Rattle.std.proofs.Common.{◌≡◌, refl, sym, ap, ◌∙◌, ℕ, ◌+◌, ◌≤◌, ◌<◌, Bool, true, false, cond, List, [], ◌∷◌, Option, Some, None, count_by, arith}
use Rattle.std.specs.Prelude.{◌-◌, ◌^◌, ◌&&◌, ◌||◌, not, min, nat_le, is_some}
use Rattle.std.specs.List.{list_any}
use Rattle.std.proofs.lemmas.Bool.{true≢false}
use Rattle.std.proofs.lemmas.Bool.Decides.{nat_tests}
use Rattle.std.proofs.lemmas.List.Sums.{sum_by-cons}
use Rattle.bm_session.specs.declared.results.Results.{Results}
use Rattle.bm_operator.specs.declared.reasons.StartRefusal.TheVariants as why
use Rattle.bm_operator.specs.declared.reasons.StepLimit.{StepLimit}
use Rattle.bm_runner.specs.declared.port.Polled.{Polled}
use Rattle.bm_runner.specs.declared.port.Polled.TheVariants.{Running, Cancel, Ended}
use Rattle.bm_lane_actor.specs.declared.cancel_policy.Interruption.TheVariants as order
use Rattle.bm_lane_actor.specs.declared.step_machine.StepInput.{StepInput}
use Rattle.bm_lane_actor.specs.declared.step_machine.StepInput.TheVariants.{Next, Started, Refused, Seen, Ticked, Interrupt, Ordered}
use Rattle.bm_lane_actor.specs.CancelPolicy.{CancelView, is_left_out, is_to_order}
use Rattle.bm_lane_actor.specs.StepMeter.{MeterView, cancelled_after, is_given_up, is_late, limit_at, meter_after, reached_at}
use Rattle.bm_lane_actor.specs.StepMachine.{StepView, at_limits, ended, heard, heard_acts, limit_seen, step_acts, step_after, uses_up}
use Rattle.bm_lane_actor.specs.StepLaws.{CancelledStepsEnd, CancelsAreTold, CancelsToldOnce, HeldCancelLeavesOutOne, HeldCancelWaits, InterruptedOnce, LimitedStepsEnd, LimitsToldOnce, NoMoreAreLeftOut, OneCancelToldOnce, OneLimitACommand, StepsEndSoon, acts, after, ends_by_cancel, holds_one, interrupts, is_end, is_next, is_plain_next, is_start, is_tick, is_to_be_ordered, says_end, takes_back, tells, tells_limit}

-- neither of two tests holds
neither : (a b : Bool) → (a || b) ≡ false → (a ≡ false) × (b ≡ false)
neither true b h = absurd (true≢false h)
neither false b h = (refl, h)

either-none : (a b : Bool) → a ≡ false → b ≡ false → (a || b) ≡ false
either-none a b h g = ap (λ x. x || b) h ∙ g

counted : {A : Type 0} (p : A → Bool) (x : A) (xs : List A) → count_by p (x ∷ xs) ≡ cond (p x) 1 0 + count_by p xs
counted p x xs = sum_by-cons (λ y. cond (p y) 1 0) x xs

none-counted : {A : Type 0} (p : A → Bool) (xs : List A) → list_any p xs ≡ false → count_by p xs ≡ 0
none-counted p [] h = refl
none-counted p (x ∷ xs) h =
    let parts = neither (p x) (list_any p xs) h in
    let one : ◌≡◌ {A = ℕ} (cond (p x) 1 0) 0 = ap (λ b. cond b 1 0) parts.0 in
    omega (arith, counted p x xs, one, none-counted p xs parts.1)

one-or-none : (b : Bool) → cond b 1 0 ≤ 1
one-or-none true = omega arith
one-or-none false = omega arith

-- Interrupting. An order that was kept stays kept, and isn't given.

ended-order : (said : Polled) (c : CancelView) → (ended said c).interruption ≡ c.interruption
ended-order (Ended result) c = refl
ended-order said c = refl

heard-order : (seen : Polled) (over : Bool) (c : CancelView) → (heard seen over c).interruption ≡ c.interruption
heard-order (Ended result) over c = refl
heard-order seen over c = refl

no-order : (wanted : Bool) (c : CancelView) → c.interruption ≡ order.Ordered → is_to_order wanted c.interruption ≡ false
no-order wanted c e = ap (is_to_order wanted) e

heard-quiet : (seen : Polled) (over : Bool) (c : CancelView) → c.interruption ≡ order.Ordered → (heard_acts seen over c).interrupts ≡ false
heard-quiet (Ended result) over c e = refl
heard-quiet Running over c e = no-order (false || over) c e
heard-quiet Cancel over c e = no-order true c e

left-order : (b : Bool) (c : CancelView) → (cond b (record c { held = false }) c).interruption ≡ c.interruption
left-order true c = refl
left-order false c = refl

abbrev Quiet : StepInput → StepView → Type 0
Quiet i s = (interrupts (step_acts i s) ≡ false) × ((step_after i s).cancels.interruption ≡ order.Ordered)

quiet-step : (i : StepInput) (s : StepView) → s.cancels.interruption ≡ order.Ordered → is_to_be_ordered i ≡ false → Quiet i s
quiet-step (Next always) s e h = (refl, left-order (is_left_out s.cancels.held always) s.cancels ∙ e)
quiet-step (Started a b c set) s e h = absurd (true≢false h)
quiet-step (Refused why.Cancelled) s e h = (refl, e)
quiet-step (Refused r) s e h = (refl, e)
quiet-step (Seen said) s e h = (heard-quiet said false s.cancels e, heard-order said false s.cancels ∙ e)
quiet-step (Ticked seen bytes) s e h =
    let over = is_some (limit_seen s.meter bytes seen) in
    (heard-quiet seen over s.cancels e, ended-order (at_limits s.meter bytes seen) (heard seen over s.cancels) ∙ heard-order seen over s.cancels ∙ e)
quiet-step Interrupt s e h = (no-order true s.cancels e, e)
quiet-step (Ordered true) s e h = (refl, refl)
quiet-step (Ordered false) s e h = absurd (true≢false h)

pub interrupted_once : InterruptedOnce
interrupted_once s [] e h = refl
interrupted_once s (i ∷ is) e h =
    let parts = neither (is_to_be_ordered i) (list_any is_to_be_ordered is) h in
    let one = quiet-step i s e parts.0 in
    either-none (interrupts (step_acts i s)) (list_any interrupts (acts (step_after i s) is)) one.0 (interrupted_once (step_after i s) is one.1 parts.1)

-- Telling of cancels. What is told and was told before is what is told after it, until a cancel is
-- taken back.

set-pays : (set told : Bool) → cond (set && not told) 1 0 + cond told 1 0 ≡ cond set 1 0 + cond (told && not set) 1 0
set-pays true true = refl
set-pays true false = refl
set-pays false true = refl
set-pays false false = refl

refused-pays : (told : Bool) → cond (not told) 1 0 + cond told 1 0 ≡ 1
refused-pays true = refl
refused-pays false = refl

seen-pays : (cancelled told : Bool) → cond (cancelled && not told) 1 0 + cond told 1 0 ≡ cond (told || cancelled) 1 0
seen-pays true true = refl
seen-pays true false = refl
seen-pays false true = refl
seen-pays false false = refl

heard-pays : (seen : Polled) (over : Bool) (c : CancelView) → cond (heard_acts seen over c).tells 1 0 + cond c.told 1 0 ≡ cond (heard seen over c).told 1 0
heard-pays (Ended result) over c = omega arith
heard-pays Running over c = seen-pays false c.told
heard-pays Cancel over c = seen-pays true c.told

used-pays : (used told : Bool) → (cond told 1 0 ≤ cond used 1 0 + cond (told && not used) 1 0) × (cond (told && not used) 1 0 ≤ cond told 1 0)
used-pays true true = (omega arith, omega arith)
used-pays true false = (omega arith, omega arith)
used-pays false true = (omega arith, omega arith)
used-pays false false = (omega arith, omega arith)

ended-pays : (said : Polled) (c : CancelView) → (cond c.told 1 0 ≤ cond (is_end said && uses_up said) 1 0 + cond (ended said c).told 1 0) × (cond (ended said c).told 1 0 ≤ cond c.told 1 0)
ended-pays (Ended result) c = used-pays (uses_up (Ended result)) c.told
ended-pays said c = (omega arith, omega arith)

left-told : (b : Bool) (c : CancelView) → (cond b (record c { held = false }) c).told ≡ c.told
left-told true c = refl
left-told false c = refl

-- one input's share of both counts
abbrev Paid : StepInput → StepView → Type 0
Paid i s =
    (cond (tells (step_acts i s)) 1 0 + cond s.cancels.told 1 0 ≤ cond (takes_back i) 1 0 + cond (ends_by_cancel (step_acts i s)) 1 0 + cond (step_after i s).cancels.told 1 0)
    × (cond (takes_back i) 1 0 + cond (step_after i s).cancels.told 1 0 ≤ cond (tells (step_acts i s)) 1 0 + cond s.cancels.told 1 0)

same-count : (b c : Bool) → b ≡ c → ◌≡◌ {A = ℕ} (cond b 1 0) (cond c 1 0)
same-count b c h = ap (λ x. cond x 1 0) h

paid-step : (i : StepInput) (s : StepView) → Paid i s
paid-step (Next always) s =
    let left = is_left_out s.cancels.held always in
    let same = same-count (cond left (record s.cancels { held = false }) s.cancels).told s.cancels.told (left-told left s.cancels) in
    (omega (arith, same), omega (arith, same))
paid-step (Started a b c set) s = (omega (arith, set-pays set s.cancels.told), omega (arith, set-pays set s.cancels.told))
paid-step (Refused why.Cancelled) s = (omega (arith, refused-pays s.cancels.told), omega (arith, refused-pays s.cancels.told))
paid-step (Refused r) s = (omega arith, omega arith)
paid-step (Seen said) s =
    let pays = heard-pays said false s.cancels in
    (omega (arith, pays), omega (arith, pays))
paid-step (Ticked seen bytes) s =
    let over = is_some (limit_seen s.meter bytes seen) in
    let said = at_limits s.meter bytes seen in
    let pays = heard-pays seen over s.cancels in
    let ends = ended-pays said (heard seen over s.cancels) in
    (omega (arith, pays, ends.0), omega (arith, pays, ends.1))
paid-step Interrupt s = (omega arith, omega arith)
paid-step (Ordered kept) s = (omega arith, omega arith)

pub cancels_told_once : CancelsToldOnce
cancels_told_once s [] = omega arith
cancels_told_once s (i ∷ is) =
    omega (arith, (paid-step i s).0, cancels_told_once (step_after i s) is, counted tells (step_acts i s) (acts (step_after i s) is), counted takes_back i is, counted ends_by_cancel (step_acts i s) (acts (step_after i s) is))

pub cancels_are_told : CancelsAreTold
cancels_are_told s [] = omega arith
cancels_are_told s (i ∷ is) =
    omega (arith, (paid-step i s).1, cancels_are_told (step_after i s) is, counted tells (step_acts i s) (acts (step_after i s) is), counted takes_back i is)

pub one_cancel_told_once : OneCancelToldOnce
one_cancel_told_once s is h g =
    omega (arith, cancels_told_once s is, none-counted takes_back is h, none-counted ends_by_cancel (acts s is) g, one-or-none (after s is).cancels.told)

-- Limits. One is told by the tick in which the meter reaches it.

limit-pays : (o l : Option StepLimit) → cond (is_some (cond (is_some o) None l)) 1 0 + cond (is_some o) 1 0 ≡ cond (is_some (cond (is_some o) o l)) 1 0
limit-pays (Some x) l = refl
limit-pays None l = omega arith

abbrev PaidLimit : StepInput → StepView → Type 0
PaidLimit i s =
    cond (tells_limit (step_acts i s)) 1 0 + cond (is_some s.meter.reached) 1 0 ≤ cond (is_start i) 1 0 + cond (is_some (step_after i s).meter.reached) 1 0

limit-step : (i : StepInput) (s : StepView) → PaidLimit i s
limit-step (Started a b c set) s = omega (arith, one-or-none (is_some s.meter.reached))
limit-step (Ticked (Ended result) bytes) s = omega arith
limit-step (Ticked seen bytes) s = omega (arith, limit-pays s.meter.reached (limit_at s.meter bytes))
limit-step i s = omega arith

pub one_limit_a_command : OneLimitACommand
one_limit_a_command s [] = omega arith
one_limit_a_command s (i ∷ is) =
    omega (arith, limit-step i s, one_limit_a_command (step_after i s) is, counted tells_limit (step_acts i s) (acts (step_after i s) is), counted is_start i is)

none-is-counted : {A : Type 0} (p : A → Bool) (xs : List A) → count_by p xs ≡ 0 → list_any p xs ≡ false
none-is-counted p [] h = refl
none-is-counted p (x ∷ xs) h =
    either-none (p x) (list_any p xs) (zero-test (p x) (omega (arith, counted p x xs, h))) (none-is-counted p xs (omega (arith, counted p x xs, h)))
  where
    zero-test : (b : Bool) → ◌≡◌ {A = ℕ} (cond b 1 0) 0 → b ≡ false
    zero-test true e = absurd (omega (arith, e))
    zero-test false e = refl

pub limits_told_once : LimitsToldOnce
limits_told_once s is e h =
    let reached = same-count (is_some s.meter.reached) true e in
    none-is-counted tells_limit (acts s is) (omega (arith, one_limit_a_command s is, reached, none-counted is_start is h, one-or-none (is_some (after s is).meter.reached)))

-- Ends. A step that goes on was not given up.

not-late : (late : Bool) (n : ℕ) → (late || nat_le 1000 n) ≡ false → n < 1000
not-late late n h = grind (arith, nat_tests, (neither late (nat_le 1000 n) h).1)

goes-on : (b : Bool) (seen : Polled) (result : Results) → is_end (cond b (Ended result) seen) ≡ false → b ≡ false
goes-on true seen result h = absurd (true≢false h)
goes-on false seen result h = refl

ticks-on : (m : MeterView) (bytes : ℕ) (cancelled : Bool) → is_some m.reached ≡ true → is_given_up (meter_after m bytes cancelled) ≡ false
    → (is_some (meter_after m bytes cancelled).reached ≡ true) × ((meter_after m bytes cancelled).ticks ≡ m.ticks + 1) × (m.ticks + 1 < 1000)
ticks-on m bytes cancelled e h = go m.reached e h
  where
    go : (o : Option StepLimit) → is_some o ≡ true
        → (is_late (meter_after m bytes cancelled).cancelled || (is_some (cond (is_some o) o (limit_at m bytes)) && nat_le 1000 (cond (is_some (cond (is_some o) None (limit_at m bytes))) 0 (min (m.ticks + 1) (2 ^ 32 - 1))))) ≡ false
        → (is_some (cond (is_some o) o (limit_at m bytes)) ≡ true) × (cond (is_some (cond (is_some o) None (limit_at m bytes))) 0 (min (m.ticks + 1) (2 ^ 32 - 1)) ≡ m.ticks + 1) × (m.ticks + 1 < 1000)
    go None e h = absurd (true≢false (sym e))
    go (Some x) e h =
        let soon = not-late (is_late (meter_after m bytes cancelled).cancelled) (min (m.ticks + 1) (2 ^ 32 - 1)) h in
        (refl, omega (arith, soon), omega (arith, soon))

abbrev TicksOn : StepView → List StepInput → Type 0
TicksOn s is = is_some s.meter.reached ≡ true → list_any is_start is ≡ false → list_any says_end (acts s is) ≡ false → count_by is_tick is ≤ 999 - s.meter.ticks

limited-tick : (s : StepView) (seen : Polled) (bytes : ℕ) (cancelled : Bool) (is : List StepInput)
    → ((is_some (meter_after s.meter bytes cancelled).reached ≡ true) → count_by is_tick is ≤ 999 - (meter_after s.meter bytes cancelled).ticks)
    → is_some s.meter.reached ≡ true → is_given_up (meter_after s.meter bytes cancelled) ≡ false → count_by is_tick (Ticked seen bytes ∷ is) ≤ 999 - s.meter.ticks
limited-tick s seen bytes cancelled is more e h =
    let on = ticks-on s.meter bytes cancelled e h in
    omega (arith, counted is_tick (Ticked seen bytes) is, more on.0, on.1, on.2)

other-input : (i : StepInput) (is : List StepInput) → is_tick i ≡ false → count_by is_tick (i ∷ is) ≡ count_by is_tick is
other-input i is e =
    let none = same-count (is_tick i) false e in
    omega (arith, counted is_tick i is, none)

pub limited_steps_end : LimitedStepsEnd
limited_steps_end s [] e st en = omega arith
limited_steps_end s (Started a b c set ∷ is) e st en = absurd (true≢false st)
limited_steps_end s (Ticked (Ended result) bytes ∷ is) e st en = absurd (true≢false en)
limited_steps_end s (Ticked Running bytes ∷ is) e st en =
    let next = step_after (Ticked Running bytes) s in
    let parts = neither (says_end (step_acts (Ticked Running bytes) s)) (list_any says_end (acts next is)) en in
    limited-tick s Running bytes false is (λ r. limited_steps_end next is r st parts.1) e (goes-on (is_given_up (meter_after s.meter bytes false)) Running _ parts.0)
limited_steps_end s (Ticked Cancel bytes ∷ is) e st en =
    let next = step_after (Ticked Cancel bytes) s in
    let parts = neither (says_end (step_acts (Ticked Cancel bytes) s)) (list_any says_end (acts next is)) en in
    limited-tick s Cancel bytes true is (λ r. limited_steps_end next is r st parts.1) e (goes-on (is_given_up (meter_after s.meter bytes true)) Cancel _ parts.0)
limited_steps_end s (i ∷ is) e st en =
    let parts = neither (says_end (step_acts i s)) (list_any says_end (acts (step_after i s) is)) en in
    omega (arith, other-input i is refl, limited_steps_end (step_after i s) is e st parts.1)

late-on : (m : MeterView) (bytes : ℕ) (cancelled : Bool) (k : ℕ) → m.cancelled ≡ Some k → is_given_up (meter_after m bytes cancelled) ≡ false
    → ((meter_after m bytes cancelled).cancelled ≡ Some (k + 1)) × (k + 1 < 1000)
late-on m bytes cancelled k e h =
    let next = meter_after m bytes cancelled in
    let late : nat_le 1000 (min (k + 1) (2 ^ 32 - 1)) ≡ false = sym (ap (λ o. is_late (cancelled_after o cancelled)) e) ∙ (neither (is_late next.cancelled) (is_some next.reached && nat_le 1000 next.ticks) h).0 in
    let soon : min (k + 1) (2 ^ 32 - 1) < 1000 = not-late false (min (k + 1) (2 ^ 32 - 1)) late in
    let same : min (k + 1) (2 ^ 32 - 1) ≡ k + 1 = omega (arith, soon) in
    (ap (λ o. cancelled_after o cancelled) e ∙ ap (λ n. Some n) same, omega (arith, soon))

cancelled-tick : (s : StepView) (k : ℕ) (seen : Polled) (bytes : ℕ) (cancelled : Bool) (is : List StepInput)
    → (((meter_after s.meter bytes cancelled).cancelled ≡ Some (k + 1)) → count_by is_tick is ≤ 999 - (k + 1))
    → s.meter.cancelled ≡ Some k → is_given_up (meter_after s.meter bytes cancelled) ≡ false → count_by is_tick (Ticked seen bytes ∷ is) ≤ 999 - k
cancelled-tick s k seen bytes cancelled is more e h =
    let on = late-on s.meter bytes cancelled k e h in
    omega (arith, counted is_tick (Ticked seen bytes) is, more on.0, on.1)

pub cancelled_steps_end : CancelledStepsEnd
cancelled_steps_end s k [] e st en = omega arith
cancelled_steps_end s k (Started a b c set ∷ is) e st en = absurd (true≢false st)
cancelled_steps_end s k (Ticked (Ended result) bytes ∷ is) e st en = absurd (true≢false en)
cancelled_steps_end s k (Ticked Running bytes ∷ is) e st en =
    let next = step_after (Ticked Running bytes) s in
    let parts = neither (says_end (step_acts (Ticked Running bytes) s)) (list_any says_end (acts next is)) en in
    cancelled-tick s k Running bytes false is (λ r. cancelled_steps_end next (k + 1) is r st parts.1) e (goes-on (is_given_up (meter_after s.meter bytes false)) Running _ parts.0)
cancelled_steps_end s k (Ticked Cancel bytes ∷ is) e st en =
    let next = step_after (Ticked Cancel bytes) s in
    let parts = neither (says_end (step_acts (Ticked Cancel bytes) s)) (list_any says_end (acts next is)) en in
    cancelled-tick s k Cancel bytes true is (λ r. cancelled_steps_end next (k + 1) is r st parts.1) e (goes-on (is_given_up (meter_after s.meter bytes true)) Cancel _ parts.0)
cancelled_steps_end s k (i ∷ is) e st en =
    let parts = neither (says_end (step_acts i s)) (list_any says_end (acts (step_after i s) is)) en in
    omega (arith, other-input i is refl, cancelled_steps_end (step_after i s) k is e st parts.1)

begun : (o : Option ℕ) → (k : ℕ) × (cancelled_after o true ≡ Some k)
begun (Some k) = (min (k + 1) (2 ^ 32 - 1), refl)
begun None = (0, refl)

now-reached : (o l : Option StepLimit) → is_some (cond (is_some o) None l) ≡ true → is_some (cond (is_some o) o l) ≡ true
now-reached (Some x) l h = refl
now-reached None l h = h

first-of-two : (a : Bool) → (a || false) ≡ true → a ≡ true
first-of-two true h = refl
first-of-two false h = h

pub steps_end_soon : StepsEndSoon
steps_end_soon s (Ended result) bytes is h st en = absurd (true≢false (sym h))
steps_end_soon s Running bytes is h st en =
    let told : is_some (reached_at s.meter bytes) ≡ true = first-of-two (is_some (reached_at s.meter bytes)) h in
    let reached = now-reached s.meter.reached (limit_at s.meter bytes) told in
    omega (arith, limited_steps_end (step_after (Ticked Running bytes) s) is reached st en)
steps_end_soon s Cancel bytes is h st en =
    let some = begun s.meter.cancelled in
    omega (arith, cancelled_steps_end (step_after (Ticked Cancel bytes) s) some.0 is some.1 st en)

-- Steps that are left out. One takes the cancel that is held; else that stays.

ended-held : (said : Polled) (c : CancelView) → (ended said c).held ≡ c.held
ended-held (Ended result) c = refl
ended-held said c = refl

heard-held : (seen : Polled) (over : Bool) (c : CancelView) → (heard seen over c).held ≡ c.held
heard-held (Ended result) over c = refl
heard-held seen over c = refl

tick-held : (seen : Polled) (bytes : ℕ) (s : StepView) → (step_after (Ticked seen bytes) s).cancels.held ≡ s.cancels.held
tick-held seen bytes s =
    let over = is_some (limit_seen s.meter bytes seen) in
    ended-held (at_limits s.meter bytes seen) (heard seen over s.cancels) ∙ heard-held seen over s.cancels

leaves-pays : (always : Bool) (c : CancelView) → cond (is_left_out c.held always) 1 0 + cond (cond (is_left_out c.held always) (record c { held = false }) c).held 1 0 ≤ cond c.held 1 0
leaves-pays always c = go c.held always refl
  where
    go : (h a : Bool) → c.held ≡ h → cond (is_left_out h a) 1 0 + cond (cond (is_left_out h a) (record c { held = false }) c).held 1 0 ≤ cond h 1 0
    go true true e = let same = same-count c.held true e in omega (arith, same)
    go true false e = omega arith
    go false a e = let same = same-count c.held false e in omega (arith, same)

set-held : (held set : Bool) → cond (held || set) 1 0 ≤ cond set 1 0 + cond held 1 0
set-held true set = omega arith
set-held false set = omega arith

abbrev PaidHeld : StepInput → StepView → Type 0
PaidHeld i s =
    cond (is_next i && (step_after i s).none) 1 0 + cond (step_after i s).cancels.held 1 0 ≤ cond (holds_one i) 1 0 + cond s.cancels.held 1 0

held-step : (i : StepInput) (s : StepView) → PaidHeld i s
held-step (Next always) s = omega (arith, leaves-pays always s.cancels)
held-step (Started a b c set) s = omega (arith, set-held s.cancels.held set)
held-step (Refused why.Cancelled) s = omega arith
held-step (Refused r) s = omega arith
held-step (Seen said) s =
    let same = same-count (heard said false s.cancels).held s.cancels.held (heard-held said false s.cancels) in
    omega (arith, same)
held-step (Ticked seen bytes) s =
    let same = same-count (step_after (Ticked seen bytes) s).cancels.held s.cancels.held (tick-held seen bytes s) in
    omega (arith, same)
held-step i s = omega arith

pub no_more_are_left_out : NoMoreAreLeftOut
no_more_are_left_out s [] = omega arith
no_more_are_left_out s (i ∷ is) =
    omega (arith, held-step i s, no_more_are_left_out (step_after i s) is, counted holds_one i is)

-- a step that always runs takes no cancel
abbrev Waits : StepInput → StepView → Type 0
Waits i s = ((step_after i s).cancels.held ≡ true) × ((is_next i && (step_after i s).none) ≡ false)

never-out : (b : Bool) → is_left_out b true ≡ false
never-out true = refl
never-out false = refl

waits-step : (i : StepInput) (s : StepView) → s.cancels.held ≡ true → is_plain_next i ≡ false → Waits i s
waits-step (Next true) s e h =
    let none = never-out s.cancels.held in
    (ap (λ b. (cond b (record s.cancels { held = false }) s.cancels).held) none ∙ e, none)
waits-step (Next false) s e h = absurd (true≢false h)
waits-step (Started a b c set) s e h = (ap (λ b. b || set) e, refl)
waits-step (Refused why.Cancelled) s e h = (e, refl)
waits-step (Refused r) s e h = (e, refl)
waits-step (Seen said) s e h = (heard-held said false s.cancels ∙ e, refl)
waits-step (Ticked seen bytes) s e h = (tick-held seen bytes s ∙ e, refl)
waits-step i s e h = (e, refl)

pub held_cancel_waits : HeldCancelWaits
held_cancel_waits s [] e h = (e, refl)
held_cancel_waits s (i ∷ is) e h =
    let parts = neither (is_plain_next i) (list_any is_plain_next is) h in
    let one = waits-step i s e parts.0 in
    let more = held_cancel_waits (step_after i s) is one.0 parts.1 in
    let none = same-count (is_next i && (step_after i s).none) false one.1 in
    (more.0, omega (arith, none, more.1))

pub held_cancel_leaves_out_one : HeldCancelLeavesOutOne
held_cancel_leaves_out_one s e =
    let out : is_left_out s.cancels.held false ≡ true = ap (λ b. is_left_out b false) e in
    let free : (step_after (Next false) s).cancels.held ≡ false = ap (λ b. (cond b (record s.cancels { held = false }) s.cancels).held) out in
    (out, free, ap (λ b. is_left_out b false) free)
