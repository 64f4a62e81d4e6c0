-- The laws of a worker as its master drives it.
use Rattle.std.proofs.Common.{◌≡◌, refl, sym, ap, ◌∙◌, subst, ℕ, ◌+◌, ◌≤◌, ◌<◌, Bool, true, false, cond, List, [], ◌∷◌, Option, Some, None, count_by, arith}
use Rattle.std.specs.Prelude.{◌-◌, ◌^◌, ◌&&◌, ◌||◌, ◌==◌, not, min, nat_le, is_some, IfSome}
use Rattle.std.specs.List.{list_any}
use Rattle.std.specs.Option.{option_map, option_map_or}
use Rattle.std.proofs.lemmas.Bool.{true≢false}
use Rattle.std.proofs.lemmas.Bool.Decides.{nat_tests}
use Rattle.std.proofs.lemmas.List.Sums.{sum_by-cons}
use Rattle.bm_latent.specs.declared.deadline.EndAct.{EndAct}
use Rattle.bm_latent.specs.declared.deadline.EndAct.TheVariants as end_act
use Rattle.bm_latent.specs.declared.worker_event.WorkerEvent.{WorkerEvent}
use Rattle.bm_latent.specs.declared.worker_event.WorkerEvent.TheVariants as event
use Rattle.bm_latent.specs.declared.worker_event.ProcessAction.{ProcessAction}
use Rattle.bm_latent.specs.declared.worker_event.ProcessAction.TheVariants as process_act
use Rattle.bm_latent.specs.declared.worker_event.WorkerAction.{WorkerAction}
use Rattle.bm_latent.specs.declared.worker_input.WorkerInput.{WorkerInput}
use Rattle.bm_latent.specs.declared.worker_input.WorkerInput.TheVariants.{Happened, Started, Refused, Ended, Tick, Over}
use Rattle.bm_latent.specs.Deadline.{act_at, after_tick, begun}
use Rattle.bm_latent.specs.declared.event.LatentState.{LatentState}
use Rattle.bm_latent.specs.declared.event.LatentState.TheVariants.{Not, Substantiating, Substantiated, Insubstantiating, Waiting, Held}
use Rattle.bm_latent.specs.declared.event.LatentEvent.{LatentEvent}
use Rattle.bm_latent.specs.declared.event.LatentEvent.TheVariants as latent
use Rattle.bm_latent.specs.declared.event.Act.{Act}
use Rattle.bm_latent.specs.declared.event.Act.TheVariants as act
use Rattle.bm_latent.specs.Latent.{LatentView, row, standing_after}
use Rattle.bm_latent.specs.WorkerState.{WorkerView, act_of, action_of, is_dismissed, is_needless, is_occupied, is_ready, is_start, is_stop, is_stopping, is_substantiated, is_to_stop, known_after, machine_after as latent_run, told}
use Rattle.bm_latent.specs.WorkerMachine.{MachineView, after_ticking, allowed, answer, at_once, came, does, effect_of, ending, fault, follows, heard, is_due, is_of_lane, is_tried_again, machine_after, nothing, ordered, outlived, runs, spared, stopped, tick_action, ticked, unneeded, unstarted}
use Rattle.bm_latent.specs.MachineLaws.{AskedInTime, DismissedAreNotTold, EndedMastersStartNone, IsSound, KilledInTime, NewProgramsAreUnasked, NoneIsForgotten, NoneIsKilledUnasked, NoneIsStartedUnwanted, OneProgramRuns, ProgramsAreToEnd, StartsWhereNoneRuns, ToldOnceToShutDown, after, asks, begins, effects, is_ask, is_end, is_kill, is_anew, is_shutdown, is_start_of, is_tick, is_want, kills, comes_anew, shuts_down, starts, stops, wants_start}

-- of two values either has what both have
both : {A : Type 0} (P : A → Type 0) (b : Bool) (x y : A) → P x → P y → P (cond b x y)
both P true x y h g = h
both P false x y h g = g

neither : (a b : Bool) → (a || b) ≡ false → (a ≡ false) × (b ≡ false)
neither true b h = absurd (true≢false h)
neither false b h = (refl, h)

-- What no event changes of a program.

abbrev Keeps : MachineView → MachineView → Type 0
Keeps m n = (n.running ≡ m.running) × (n.asked ≡ m.asked) × (n.over ≡ m.over)

keeps-on : (l m n : MachineView) → Keeps l m → Keeps m n → Keeps l n
keeps-on l m n h g = (g.0 ∙ h.0, g.1 ∙ h.1, g.2 ∙ h.2)

ordered-keeps : (a : ProcessAction) (m : MachineView) → Keeps m (ordered a m)
ordered-keeps process_act.None m = (refl, refl, refl)
ordered-keeps process_act.Start m = (refl, refl, refl)
ordered-keeps process_act.Shutdown m = (refl, refl, refl)

outlived-keeps : (m : MachineView) → Keeps m (outlived m)
outlived-keeps m = both (Keeps m) (is_to_stop m.known) (ending m) m (refl, refl, refl) (refl, refl, refl)

heard-keeps : (m : MachineView) (e : WorkerEvent) → Keeps m (heard m e)
heard-keeps m e =
    let known = record m { known = known_after m.known e } in
    keeps-on m (ordered (follows m e) known) (heard m e) (ordered-keeps (follows m e) known) (outlived-keeps (ordered (follows m e) known))

came-keeps : (m : MachineView) (e : WorkerEvent) → Keeps m (came m e)
came-keeps m event.Attached = (refl, refl, refl)
came-keeps m event.Lost = (refl, refl, refl)
came-keeps m e = (refl, refl, refl)

-- What the invariant says stays so.

abbrev AskedBy : Bool → Option ℕ → Type 0
AskedBy asked o = IfSome o (λ ticks. 200 ≤ ticks → asked ≡ true)

begun-asked : (asked : Bool) (o : Option ℕ) → AskedBy asked o → AskedBy asked (begun o)
begun-asked asked (Some t) h = h
begun-asked asked None h = λ le. absurd (omega (arith, le))

ending-sound : (m : MachineView) → IsSound m → IsSound (ending m)
ending-sound m h = (both (AskedBy m.asked) m.running (begun m.deadline) m.deadline (begun-asked m.asked m.deadline h.0) h.0, h.1)

outlived-sound : (m : MachineView) → IsSound m → IsSound (outlived m)
outlived-sound m h = both IsSound (is_to_stop m.known) (ending m) m (ending-sound m h) h

allowed-sound : (m : MachineView) (known : WorkerView) (a : ProcessAction) → IsSound m → IsSound (ordered (allowed m a) (record m { known = known }))
allowed-sound m known process_act.None h = h
allowed-sound m known process_act.Shutdown h = h
allowed-sound m known process_act.Start h = go (m.running || m.starting) refl
  where
    go : (b : Bool) → (m.running || m.starting) ≡ b → IsSound (ordered (cond b process_act.None process_act.Start) (record m { known = known }))
    go true e = h
    go false e = (h.0, λ s. (neither m.running m.starting e).0)

heard-sound : (m : MachineView) (e : WorkerEvent) → IsSound m → IsSound (heard m e)
heard-sound m e h =
    let known = known_after m.known e in
    outlived-sound (ordered (follows m e) (record m { known = known })) (allowed-sound m known (action_of m.known e).process h)

came-sound : (m : MachineView) (e : WorkerEvent) → IsSound m → IsSound (came m e)
came-sound m event.Attached h = h
came-sound m event.Lost h = h
came-sound m e h = h

runs-sound : (m : MachineView) → IsSound (runs m)
runs-sound m = (both (AskedBy false) m.over (Some 0) None (λ le. absurd (omega (arith, le))) tt, λ s. absurd (true≢false (sym s)))

unstarted-sound : (m : MachineView) → IsSound m → IsSound (unstarted m)
unstarted-sound m h = (h.0, λ s. absurd (true≢false (sym s)))

stopped-sound : (m : MachineView) → IsSound (stopped m)
stopped-sound m = (tt, λ s. refl)

unneeded-sound : (m : MachineView) (wanted : Bool) → IsSound m → IsSound (unneeded m wanted)
unneeded-sound m wanted h = both IsSound (is_needless m.known wanted) (ending m) m (ending-sound m h) h

either-way : (a b : Bool) → (a ≡ true) → (a || b) ≡ true
either-way a b h = ap (λ x. x || b) h

other-way : (a b : Bool) → (b ≡ true) → (a || b) ≡ true
other-way true b h = refl
other-way false b h = h

at-least : (k n : ℕ) → nat_le k n ≡ true → k ≤ n
at-least k n h = grind (arith, nat_tests, h)

below : (k n : ℕ) → nat_le k n ≡ false → n < k
below k n h = grind (arith, nat_tests, h)

-- an act is due from the tick on at which it is asked
tick-asked : (asked : Bool) (o : Option ℕ) → AskedBy asked o → AskedBy (asked || is_due (act_at (after_tick o))) (after_tick o)
tick-asked asked None h = tt
tick-asked asked (Some t) h = λ le. go (min (t + 1) (2 ^ 32 - 1)) refl le
  where
    due : (n : ℕ) → n ≡ 200 → is_due (act_at (Some n)) ≡ true
    due n e = ap (λ x. is_due (act_at (Some x))) e

    go : (n : ℕ) → min (t + 1) (2 ^ 32 - 1) ≡ n → 200 ≤ n → (asked || is_due (act_at (Some n))) ≡ true
    go n e le = tests (nat_le 201 n) refl
      where
        tests : (b : Bool) → nat_le 201 n ≡ b → (asked || is_due (act_at (Some n))) ≡ true
        tests true more = either-way asked (is_due (act_at (Some n))) (h (omega (arith, at-least 201 n more, e)))
        tests false less = other-way asked (is_due (act_at (Some n))) (due n (omega (arith, below 201 n less, le)))

ticked-sound : (m : MachineView) → IsSound m → IsSound (ticked m)
ticked-sound m h = (tick-asked m.asked m.deadline h.0, h.1)

after-ticking-sound : (m : MachineView) (wanted has_build : Bool) → IsSound m → IsSound (after_ticking m wanted has_build)
after-ticking-sound m wanted has_build h =
    let tick = event.Tick (is_occupied m.known wanted has_build) in
    let given-up = heard (unstarted m) (fault m) in
    both IsSound m.over m _ h
    (both IsSound m.starting _ (heard m tick)
    (both IsSound wanted m given-up h (heard-sound (unstarted m) (fault m) (unstarted-sound m h)))
    (heard-sound m tick h))

sound-step : (i : WorkerInput) (m : MachineView) → IsSound m → IsSound (machine_after m i)
sound-step (Happened e) m h =
    both IsSound (not (is_of_lane e)) m _ h
    (both IsSound m.over (came m e) (heard (came m e) e) (came-sound m e h) (heard-sound (came m e) e (came-sound m e h)))
sound-step Started m h = both IsSound m.starting (heard (runs m) event.Started) m (heard-sound (runs m) event.Started (runs-sound m)) h
sound-step (Refused may_pass) m h =
    both IsSound (not m.starting || is_tried_again m may_pass) m (heard (unstarted m) (fault m)) h
    (heard-sound (unstarted m) (fault m) (unstarted-sound m h))
sound-step Ended m h =
    both IsSound (not m.running) m _ h
    (both IsSound m.over (stopped m) (heard (stopped m) event.Stopped) (stopped-sound m) (heard-sound (stopped m) event.Stopped (stopped-sound m)))
sound-step (Tick wanted has_build) m h =
    let n = unneeded m wanted in
    after-ticking-sound (ticked n) wanted has_build (ticked-sound n (unneeded-sound m wanted h))
sound-step Over m h = ending-sound m h

sound : (m : MachineView) (is : List WorkerInput) → IsSound m → IsSound (after m is)
sound m [] h = h
sound m (i ∷ is) h = sound (machine_after m i) is (sound-step i m h)

-- One program runs.

same-count : (b c : Bool) → b ≡ c → ◌≡◌ {A = ℕ} (cond b 1 0) (cond c 1 0)
same-count b c h = ap (λ x. cond x 1 0) h

abbrev RunsAs : Bool → MachineView → Type 0
RunsAs b n = n.running ≡ b

unneeded-running : (m : MachineView) (wanted : Bool) → (unneeded m wanted).running ≡ m.running
unneeded-running m wanted = both (RunsAs m.running) (is_needless m.known wanted) (ending m) m refl refl

after-ticking-running : (m : MachineView) (wanted has_build : Bool) → (after_ticking m wanted has_build).running ≡ m.running
after-ticking-running m wanted has_build =
    let tick = event.Tick (is_occupied m.known wanted has_build) in
    let given-up = heard (unstarted m) (fault m) in
    let same = RunsAs m.running in
    both same m.over m _ refl
    (both same m.starting _ (heard m tick)
    (both same wanted m given-up refl (heard-keeps (unstarted m) (fault m)).0)
    (heard-keeps m tick).0)

abbrev PaidRun : MachineView → WorkerInput → Type 0
PaidRun m i = cond (begins m i) 1 0 + cond m.running 1 0 ≡ cond (stops m i) 1 0 + cond (machine_after m i).running 1 0

still-runs : (m n : MachineView) → n.running ≡ m.running → 0 + cond m.running 1 0 ≡ 0 + cond n.running 1 0
still-runs m n h = let same = same-count n.running m.running h in omega (arith, same)

run-step : (i : WorkerInput) (m : MachineView) → IsSound m → PaidRun m i
run-step (Happened e) m h =
    let same = RunsAs m.running in
    still-runs m (machine_after m (Happened e))
    (both same (not (is_of_lane e)) m _ refl
    (both same m.over (came m e) (heard (came m e) e) (came-keeps m e).0 ((heard-keeps (came m e) e).0 ∙ (came-keeps m e).0)))
run-step Started m h = go m.starting refl
  where
    go : (b : Bool) → m.starting ≡ b → cond m.starting 1 0 + cond m.running 1 0 ≡ 0 + cond (cond m.starting (heard (runs m) event.Started) m).running 1 0
    go true e =
        let none = same-count m.running false (h.1 e) in
        let one = same-count m.starting true e in
        let begun = same-count (cond m.starting (heard (runs m) event.Started) m).running true (ap (λ b. (cond b (heard (runs m) event.Started) m).running) e ∙ (heard-keeps (runs m) event.Started).0) in
        omega (arith, none, one, begun)
    go false e =
        let one = same-count m.starting false e in
        let same = same-count (cond m.starting (heard (runs m) event.Started) m).running m.running (ap (λ b. (cond b (heard (runs m) event.Started) m).running) e) in
        omega (arith, one, same)
run-step (Refused may_pass) m h =
    still-runs m (machine_after m (Refused may_pass))
    (both (RunsAs m.running) (not m.starting || is_tried_again m may_pass) m (heard (unstarted m) (fault m)) refl (heard-keeps (unstarted m) (fault m)).0)
run-step Ended m h = go m.running refl
  where
    rest : MachineView
    rest = cond m.over (stopped m) (heard (stopped m) event.Stopped)

    at-rest : rest.running ≡ false
    at-rest = both (RunsAs false) m.over (stopped m) (heard (stopped m) event.Stopped) refl (heard-keeps (stopped m) event.Stopped).0

    go : (b : Bool) → m.running ≡ b → 0 + cond m.running 1 0 ≡ cond m.running 1 0 + cond (cond (not m.running) m rest).running 1 0
    go true e =
        let none = same-count (cond (not m.running) m rest).running false (ap (λ b. (cond (not b) m rest).running) e ∙ at-rest) in
        omega (arith, none)
    go false e =
        let none = same-count (cond (not m.running) m rest).running false (ap (λ b. (cond (not b) m rest).running) e ∙ e) in
        omega (arith, none)
run-step (Tick wanted has_build) m h =
    let n = unneeded m wanted in
    still-runs m (machine_after m (Tick wanted has_build)) (after-ticking-running (ticked n) wanted has_build ∙ unneeded-running m wanted)
run-step Over m h = still-runs m (machine_after m Over) refl

pub one_program_runs : OneProgramRuns
one_program_runs m [] h = refl
one_program_runs m (i ∷ is) h =
    omega (arith, run-step i m h, one_program_runs (machine_after m i) is (sound-step i m h))

-- Starts. One is told at once only where a build was just said to wait, or by a tick by which one
-- does.

abbrev StartsNone : ProcessAction → Type 0
StartsNone a = a ≡ process_act.Start → ⊥

abbrev IsStart : ProcessAction → Bool
IsStart process_act.Start = true
IsStart a = false

not-start : (a : ProcessAction) → IsStart a ≡ false → StartsNone a
not-start a h e = true≢false (sym (ap IsStart e) ∙ h)

none-starts : StartsNone process_act.None
none-starts = not-start process_act.None refl

shutdown-starts : StartsNone process_act.Shutdown
shutdown-starts = not-start process_act.Shutdown refl

later : (e : WorkerEvent) (a : ProcessAction) → is_want e ≡ false → StartsNone (at_once e a)
later event.Wanted a h = absurd (true≢false h)
later e process_act.Start h = none-starts
later e process_act.None h = none-starts
later e process_act.Shutdown h = shutdown-starts

allowed-start : (m : MachineView) (a : ProcessAction) → allowed m a ≡ process_act.Start → m.running ≡ false
allowed-start m process_act.None e = absurd (none-starts e)
allowed-start m process_act.Shutdown e = absurd (shutdown-starts e)
allowed-start m process_act.Start e = go (m.running || m.starting) refl e
  where
    go : (b : Bool) → (m.running || m.starting) ≡ b → cond b process_act.None process_act.Start ≡ process_act.Start → m.running ≡ false
    go true s e = absurd (none-starts e)
    go false s e = (neither m.running m.starting s).0

fault-later : (m : MachineView) → is_want (fault m) ≡ false
fault-later m = both (λ e. is_want e ≡ false) _ event.Stopped event.Failed refl refl

wanted-same : (e : WorkerEvent) → is_want e ≡ true → (a : ProcessAction) → a ≡ at_once e a
wanted-same event.Wanted h a = refl
wanted-same e h a = absurd (true≢false (sym h))

unneeded-over : (m : MachineView) (wanted : Bool) → (unneeded m wanted).over ≡ m.over
unneeded-over m wanted = both (λ n. n.over ≡ m.over) (is_needless m.known wanted) (ending m) m refl refl

-- what a start asks of the machine and the input
abbrev Asks : MachineView → WorkerInput → Type 0
Asks m i = (effect_of m i).action.process ≡ process_act.Start → (wants_start i ≡ true) × (m.over ≡ false) × (IsSound m → m.running ≡ false)

refuses : (a : ProcessAction) {P : Type 0} → StartsNone a → a ≡ process_act.Start → P
refuses a none e = absurd (none e)

wanted-answer : (m : MachineView) (e : WorkerEvent) → is_want e ≡ false → StartsNone (answer m e).process
wanted-answer m e h = later e (follows m e) h

spares : (asked : Bool) (a : WorkerAction) → (spared asked a).process ≡ a.process
spares asked a = refl

none-told : {A : Type 0} (f : A → ProcessAction) (b : Bool) (x y : A) → StartsNone (f x) → StartsNone (f y) → StartsNone (f (cond b x y))
none-told f b x y h g = both (λ z. StartsNone (f z)) b x y h g

abbrev process : WorkerAction → ProcessAction
process a = a.process

asks-step : (i : WorkerInput) (m : MachineView) → Asks m i
asks-step (Happened e) m = go (m.over || not (is_of_lane e)) refl
  where
    of-came : (answer (came m e) e).process ≡ process_act.Start → (is_want e ≡ true) × ((came m e).running ≡ false)
    of-came s = test (is_want e) refl
      where
        test : (b : Bool) → is_want e ≡ b → (is_want e ≡ true) × ((came m e).running ≡ false)
        test false w = absurd (wanted-answer (came m e) e w s)
        test true w = (w, allowed-start (came m e) (action_of (came m e).known e).process (wanted-same e w (follows (came m e) e) ∙ s))

    go : (b : Bool) → (m.over || not (is_of_lane e)) ≡ b → (cond b (nothing m) (answer (came m e) e)).process ≡ process_act.Start → (is_want e ≡ true) × (m.over ≡ false) × (IsSound m → m.running ≡ false)
    go true o s = absurd (none-starts s)
    go false o s = let got = of-came s in (got.0, (neither m.over (not (is_of_lane e)) o).0, λ h. sym (came-keeps m e).0 ∙ got.1)
asks-step Started m = refuses _ (none-told process m.starting (answer (runs m) event.Started) (nothing m) (wanted-answer (runs m) event.Started refl) none-starts)
asks-step (Refused may_pass) m = go (not m.starting || is_tried_again m may_pass)
  where
    go : (b : Bool) → (cond b (does (nothing m)) (record { action = answer (unstarted m) (fault m); ends = end_act.None; fails = true })).action.process ≡ process_act.Start → (false ≡ true) × (m.over ≡ false) × (IsSound m → m.running ≡ false)
    go true s = absurd (none-starts s)
    go false s = absurd (wanted-answer (unstarted m) (fault m) (fault-later m) s)
asks-step Ended m =
    refuses _
    (none-told process (m.over || not m.running) (nothing m) (spared m.asked (answer (stopped m) event.Stopped)) none-starts (wanted-answer (stopped m) event.Stopped refl))
asks-step (Tick wanted has_build) m =
    let n = unneeded m wanted in
    λ s. let got = of-tick (ticked n) s in
    (got.0, sym (unneeded-over m wanted) ∙ got.1, λ h. sym (unneeded-running m wanted) ∙ got.2 (ticked-sound n (unneeded-sound m wanted h)))
  where
    of-tick : (n : MachineView) → (tick_action n wanted has_build).process ≡ process_act.Start → (wanted ≡ true) × (n.over ≡ false) × (IsSound n → n.running ≡ false)
    of-tick n s = at-over n.over refl s
      where
        idle : WorkerEvent
        idle = event.Tick (is_occupied n.known wanted has_build)

        again : WorkerAction
        again = record { ready = is_ready n.known; process = process_act.Start; gives_up = false }

        at-wanted : (b : Bool) → wanted ≡ b → (cond b again (answer (unstarted n) (fault n))).process ≡ process_act.Start → wanted ≡ true
        at-wanted true w s = w
        at-wanted false w s = absurd (wanted-answer (unstarted n) (fault n) (fault-later n) s)

        at-starting : (b : Bool) → n.starting ≡ b → (cond b (cond wanted again (answer (unstarted n) (fault n))) (answer n idle)).process ≡ process_act.Start → (wanted ≡ true) × (IsSound n → n.running ≡ false)
        at-starting true t s = (at-wanted wanted refl s, λ g. g.1 t)
        at-starting false t s = absurd (wanted-answer n idle refl s)

        at-over : (b : Bool) → n.over ≡ b → (cond b (nothing n) (cond n.starting (cond wanted again (answer (unstarted n) (fault n))) (answer n idle))).process ≡ process_act.Start → (wanted ≡ true) × (n.over ≡ false) × (IsSound n → n.running ≡ false)
        at-over true o s = absurd (none-starts s)
        at-over false o s = let got = at-starting n.starting refl s in (got.0, o, got.1)
asks-step Over m =
    refuses _ (none-told process _ (record { ready = is_ready m.known; process = process_act.Shutdown; gives_up = false }) (nothing m) shutdown-starts none-starts)

start-keeps : (i : WorkerInput) (m : MachineView) → (effect_of m i).action.process ≡ process_act.Start → (machine_after m i).running ≡ m.running
start-keeps (Happened e) m s =
    let same = RunsAs m.running in
    both same (not (is_of_lane e)) m _ refl
    (both same m.over (came m e) (heard (came m e) e) (came-keeps m e).0 ((heard-keeps (came m e) e).0 ∙ (came-keeps m e).0))
start-keeps (Tick wanted has_build) m s =
    let n = unneeded m wanted in
    after-ticking-running (ticked n) wanted has_build ∙ unneeded-running m wanted
start-keeps i m s = absurd (true≢false (sym (asks-step i m s).0))

pub starts_where_none_runs : StartsWhereNoneRuns
starts_where_none_runs m is i h s =
    let now = after m is in
    let asks = asks-step i now s in
    let none = asks.2 (sound m is h) in
    (none, start-keeps i now s ∙ none)

start-told : (a : ProcessAction) → is_start_of a ≡ true → a ≡ process_act.Start
start-told process_act.Start h = refl
start-told process_act.None h = absurd (true≢false (sym h))
start-told process_act.Shutdown h = absurd (true≢false (sym h))

pub none_is_started_unwanted : NoneIsStartedUnwanted
none_is_started_unwanted m i h = (asks-step i m (start-told (effect_of m i).action.process h)).0

after-ticking-keeps : (m : MachineView) (wanted has_build : Bool) → Keeps m (after_ticking m wanted has_build)
after-ticking-keeps m wanted has_build =
    let tick = event.Tick (is_occupied m.known wanted has_build) in
    let given-up = heard (unstarted m) (fault m) in
    both (Keeps m) m.over m _ (refl, refl, refl)
    (both (Keeps m) m.starting _ (heard m tick)
    (both (Keeps m) wanted m given-up (refl, refl, refl) (heard-keeps (unstarted m) (fault m)))
    (heard-keeps m tick))

happened-keeps : (m : MachineView) (e : WorkerEvent) → Keeps m (machine_after m (Happened e))
happened-keeps m e =
    both (Keeps m) (not (is_of_lane e)) m _ (refl, refl, refl)
    (both (Keeps m) m.over (came m e) (heard (came m e) e) (came-keeps m e) (keeps-on m (came m e) (heard (came m e) e) (came-keeps m e) (heard-keeps (came m e) e)))

refused-keeps : (m : MachineView) (may_pass : Bool) → Keeps m (machine_after m (Refused may_pass))
refused-keeps m may_pass =
    both (Keeps m) (not m.starting || is_tried_again m may_pass) m (heard (unstarted m) (fault m)) (refl, refl, refl) (heard-keeps (unstarted m) (fault m))

unneeded-keeps : (m : MachineView) (wanted : Bool) → Keeps m (unneeded m wanted)
unneeded-keeps m wanted = both (Keeps m) (is_needless m.known wanted) (ending m) m (refl, refl, refl) (refl, refl, refl)

-- the end of a program, and its begin, change nothing else
same-over : (m : MachineView) (b : Bool) (x y : MachineView) → x.over ≡ m.over → y.over ≡ m.over → (cond b x y).over ≡ m.over
same-over m b x y h g = both (λ n. n.over ≡ m.over) b x y h g

over-step : (i : WorkerInput) (m : MachineView) → m.over ≡ true → (machine_after m i).over ≡ true
over-step (Happened e) m h = (happened-keeps m e).2 ∙ h
over-step Started m h = same-over m m.starting (heard (runs m) event.Started) m (heard-keeps (runs m) event.Started).2 refl ∙ h
over-step (Refused may_pass) m h = (refused-keeps m may_pass).2 ∙ h
over-step Ended m h =
    same-over m (not m.running) m _ refl (same-over m m.over (stopped m) (heard (stopped m) event.Stopped) refl (heard-keeps (stopped m) event.Stopped).2) ∙ h
over-step (Tick wanted has_build) m h =
    let n = unneeded m wanted in
    (after-ticking-keeps (ticked n) wanted has_build).2 ∙ (unneeded-keeps m wanted).2 ∙ h
over-step Over m h = refl

either-none : (a b : Bool) → a ≡ false → b ≡ false → (a || b) ≡ false
either-none a b h g = ap (λ x. x || b) h ∙ g

not-true : (b : Bool) → (b ≡ true → ⊥) → b ≡ false
not-true true h = absurd (h refl)
not-true false h = refl

pub ended_masters_start_none : EndedMastersStartNone
ended_masters_start_none m [] h = refl
ended_masters_start_none m (i ∷ is) h =
    let none = not-true (starts (effect_of m i)) (λ s. true≢false (sym h ∙ (asks-step i m (start-told (effect_of m i).action.process s)).1)) in
    either-none (starts (effect_of m i)) (list_any starts (effects (machine_after m i) is)) none (ended_masters_start_none (machine_after m i) is (over-step i m h))

-- Kills. The deadline has reached 200 before a kill is due, so it was asked.

abbrev Spares : WorkerInput → MachineView → Type 0
Spares i m = (is_kill (effect_of m i).ends ≡ false) × ((machine_after m i).asked ≡ false)

kill-late : (n : ℕ) → is_kill (act_at (Some n)) ≡ true → 1000 ≤ n
kill-late n h = go (nat_le 1000 n) refl h
  where
    rest : EndAct
    rest = cond (n == 200) end_act.Ask end_act.None

    no-kill : is_kill rest ≡ false
    no-kill = both (λ a. is_kill a ≡ false) (n == 200) end_act.Ask end_act.None refl refl

    go : (b : Bool) → nat_le 1000 n ≡ b → is_kill (cond b end_act.Kill rest) ≡ true → 1000 ≤ n
    go true e k = at-least 1000 n e
    go false e k = absurd (true≢false (sym k ∙ no-kill))

no-kill-yet : (asked : Bool) (o : Option ℕ) → AskedBy asked o → asked ≡ false → is_kill (act_at (after_tick o)) ≡ false
no-kill-yet asked None h e = refl
no-kill-yet asked (Some t) h e =
    not-true (is_kill (act_at (after_tick (Some t)))) (λ k. true≢false (sym (h (omega (arith, kill-late (min (t + 1) (2 ^ 32 - 1)) k))) ∙ e))

not-due : (a : EndAct) → is_ask a ≡ false → is_kill a ≡ false → is_due a ≡ false
not-due end_act.None h g = refl
not-due end_act.Ask h g = absurd (true≢false h)
not-due end_act.Kill h g = absurd (true≢false g)

spares-step : (i : WorkerInput) (m : MachineView) → IsSound m → m.asked ≡ false → asks (effect_of m i) ≡ false → Spares i m
spares-step (Happened e) m h a n = (refl, (happened-keeps m e).1 ∙ a)
spares-step Started m h a n =
    (refl, both (λ x. x.asked ≡ false) m.starting (heard (runs m) event.Started) m (heard-keeps (runs m) event.Started).1 a)
spares-step (Refused may_pass) m h a n =
    (both (λ x. is_kill x.ends ≡ false) (not m.starting || is_tried_again m may_pass) (does (nothing m)) _ refl refl, (refused-keeps m may_pass).1 ∙ a)
spares-step Ended m h a n =
    (refl, both (λ x. x.asked ≡ false) (not m.running) m _ a (both (λ x. x.asked ≡ false) m.over (stopped m) (heard (stopped m) event.Stopped) a ((heard-keeps (stopped m) event.Stopped).1 ∙ a)))
spares-step (Tick wanted has_build) m h a n =
    let k = unneeded m wanted in
    let unasked : k.asked ≡ false = (unneeded-keeps m wanted).1 ∙ a in
    let act = act_at (after_tick k.deadline) in
    let none : is_kill act ≡ false = no-kill-yet k.asked k.deadline (unneeded-sound m wanted h).0 unasked in
    (none, (after-ticking-keeps (ticked k) wanted has_build).1 ∙ either-none k.asked (is_due act) unasked (not-due act n none))
spares-step Over m h a n = (refl, a)

pub none_is_killed_unasked : NoneIsKilledUnasked
none_is_killed_unasked m [] h a n = refl
none_is_killed_unasked m (i ∷ is) h a n =
    let parts = neither (asks (effect_of m i)) (list_any asks (effects (machine_after m i) is)) n in
    let one = spares-step i m h a parts.0 in
    either-none (kills (effect_of m i)) (list_any kills (effects (machine_after m i) is)) one.0
    (none_is_killed_unasked (machine_after m i) is (sound-step i m h) one.1 parts.1)

pub new_programs_are_unasked : NewProgramsAreUnasked
new_programs_are_unasked m is b n =
    let begun : machine_after m Started ≡ heard (runs m) event.Started = ap (λ x. cond x (heard (runs m) event.Started) m) b in
    let unasked : (machine_after m Started).asked ≡ false = ap (λ x. x.asked) begun ∙ (heard-keeps (runs m) event.Started).1 in
    none_is_killed_unasked (machine_after m Started) is (subst IsSound (sym begun) (heard-sound (runs m) event.Started (runs-sound m))) unasked n

-- The master's end. A program that runs is to end from then on.

abbrev IsDue : MachineView → Type 0
IsDue m = m.over ≡ true → m.running ≡ true → is_some m.deadline ≡ true

some-begun : (o : Option ℕ) → is_some (begun o) ≡ true
some-begun (Some t) = refl
some-begun None = refl

some-ticked : (o : Option ℕ) → is_some o ≡ true → is_some (after_tick o) ≡ true
some-ticked (Some t) h = refl
some-ticked None h = h

ending-due : (m : MachineView) → IsDue m → IsDue (ending m)
ending-due m h = λ o r. both (λ d. is_some d ≡ true) m.running (begun m.deadline) m.deadline (some-begun m.deadline) (h o r)

ordered-due : (a : ProcessAction) (m : MachineView) → IsDue m → IsDue (ordered a m)
ordered-due process_act.None m h = h
ordered-due process_act.Start m h = h
ordered-due process_act.Shutdown m h = h

heard-due : (m : MachineView) (e : WorkerEvent) → IsDue m → IsDue (heard m e)
heard-due m e h =
    let n = ordered (follows m e) (record m { known = known_after m.known e }) in
    let due : IsDue n = ordered-due (follows m e) (record m { known = known_after m.known e }) h in
    both IsDue (is_to_stop n.known) (ending n) n (ending-due n due) due

came-due : (m : MachineView) (e : WorkerEvent) → IsDue m → IsDue (came m e)
came-due m event.Attached h = h
came-due m event.Lost h = h
came-due m e h = h

runs-due : (m : MachineView) → IsDue (runs m)
runs-due m = λ o r. ap (λ b. is_some {T = ℕ} (cond b (Some 0) None)) o

stopped-due : (m : MachineView) → IsDue (stopped m)
stopped-due m = λ o r. absurd (true≢false (sym r))

after-ticking-due : (m : MachineView) (wanted has_build : Bool) → IsDue m → IsDue (after_ticking m wanted has_build)
after-ticking-due m wanted has_build h =
    let tick = event.Tick (is_occupied m.known wanted has_build) in
    let given-up = heard (unstarted m) (fault m) in
    both IsDue m.over m _ h
    (both IsDue m.starting _ (heard m tick)
    (both IsDue wanted m given-up h (heard-due (unstarted m) (fault m) h))
    (heard-due m tick h))

due-step : (i : WorkerInput) (m : MachineView) → IsDue m → IsDue (machine_after m i)
due-step (Happened e) m h =
    both IsDue (not (is_of_lane e)) m _ h
    (both IsDue m.over (came m e) (heard (came m e) e) (came-due m e h) (heard-due (came m e) e (came-due m e h)))
due-step Started m h = both IsDue m.starting (heard (runs m) event.Started) m (heard-due (runs m) event.Started (runs-due m)) h
due-step (Refused may_pass) m h =
    both IsDue (not m.starting || is_tried_again m may_pass) m (heard (unstarted m) (fault m)) h (heard-due (unstarted m) (fault m) h)
due-step Ended m h =
    both IsDue (not m.running) m _ h
    (both IsDue m.over (stopped m) (heard (stopped m) event.Stopped) (stopped-due m) (heard-due (stopped m) event.Stopped (stopped-due m)))
due-step (Tick wanted has_build) m h =
    let n = unneeded m wanted in
    let due : IsDue n = both IsDue (is_needless m.known wanted) (ending m) m (ending-due m h) h in
    after-ticking-due (ticked n) wanted has_build (λ o r. some-ticked n.deadline (due o r))
due-step Over m h = λ o r. ap (λ b. is_some (cond b (begun m.deadline) m.deadline)) r ∙ some-begun m.deadline

due : (m : MachineView) (is : List WorkerInput) → IsDue m → IsDue (after m is)
due m [] h = h
due m (i ∷ is) h = due (machine_after m i) is (due-step i m h)

pub programs_are_to_end : ProgramsAreToEnd
programs_are_to_end m is goes = due m is (λ o r. absurd (true≢false (sym o ∙ goes)))

-- A program that is to end and hasn't: each tick counts, and nothing else does.

abbrev EndsAt : ℕ → MachineView → Type 0
EndsAt d m = (m.running ≡ true) × (m.deadline ≡ Some d)

ending-at : (d : ℕ) (m : MachineView) → EndsAt d m → EndsAt d (ending m)
ending-at d m h = (h.0, both (λ o. o ≡ Some d) m.running (begun m.deadline) m.deadline (ap begun h.1) h.1)

ordered-at : (d : ℕ) (a : ProcessAction) (m : MachineView) → EndsAt d m → EndsAt d (ordered a m)
ordered-at d process_act.None m h = h
ordered-at d process_act.Start m h = h
ordered-at d process_act.Shutdown m h = h

heard-at : (d : ℕ) (m : MachineView) (e : WorkerEvent) → EndsAt d m → EndsAt d (heard m e)
heard-at d m e h =
    let n = ordered (follows m e) (record m { known = known_after m.known e }) in
    let at : EndsAt d n = ordered-at d (follows m e) (record m { known = known_after m.known e }) h in
    both (EndsAt d) (is_to_stop n.known) (ending n) n (ending-at d n at) at

came-at : (d : ℕ) (m : MachineView) (e : WorkerEvent) → EndsAt d m → EndsAt d (came m e)
came-at d m event.Attached h = h
came-at d m event.Lost h = h
came-at d m e h = h

unneeded-at : (d : ℕ) (m : MachineView) (wanted : Bool) → EndsAt d m → EndsAt d (unneeded m wanted)
unneeded-at d m wanted h = both (EndsAt d) (is_needless m.known wanted) (ending m) m (ending-at d m h) h

after-ticking-at : (d : ℕ) (m : MachineView) (wanted has_build : Bool) → EndsAt d m → EndsAt d (after_ticking m wanted has_build)
after-ticking-at d m wanted has_build h =
    let tick = event.Tick (is_occupied m.known wanted has_build) in
    let given-up = heard (unstarted m) (fault m) in
    both (EndsAt d) m.over m _ h
    (both (EndsAt d) m.starting _ (heard m tick)
    (both (EndsAt d) wanted m given-up h (heard-at d (unstarted m) (fault m) h))
    (heard-at d m tick h))

at-step : (i : WorkerInput) (d : ℕ) (m : MachineView) → IsSound m → EndsAt d m → is_end i ≡ false → EndsAt (cond (is_tick i) (min (d + 1) (2 ^ 32 - 1)) d) (machine_after m i)
at-step (Happened e) d m h at n =
    both (EndsAt d) (not (is_of_lane e)) m _ at
    (both (EndsAt d) m.over (came m e) (heard (came m e) e) (came-at d m e at) (heard-at d (came m e) e (came-at d m e at)))
at-step Started d m h at n = go m.starting refl
  where
    go : (b : Bool) → m.starting ≡ b → EndsAt d (cond m.starting (heard (runs m) event.Started) m)
    go true s = absurd (true≢false (sym at.0 ∙ h.1 s))
    go false s = subst (λ b. EndsAt d (cond b (heard (runs m) event.Started) m)) (sym s) at
at-step (Refused may_pass) d m h at n =
    both (EndsAt d) (not m.starting || is_tried_again m may_pass) m (heard (unstarted m) (fault m)) at (heard-at d (unstarted m) (fault m) at)
at-step Ended d m h at n = absurd (true≢false n)
at-step (Tick wanted has_build) d m h at n =
    let k = unneeded m wanted in
    let on = unneeded-at d m wanted at in
    after-ticking-at (min (d + 1) (2 ^ 32 - 1)) (ticked k) wanted has_build (on.0, ap after_tick on.1)
at-step Over d m h at n = ending-at d m at

counted : {A : Type 0} (p : A → Bool) (x : A) (xs : List A) → count_by p (x ∷ xs) ≡ cond (p x) 1 0 + count_by p xs
counted p x xs = sum_by-cons (λ y. cond (p y) 1 0) x xs

abbrev Counts : MachineView → ℕ → Type 0
Counts m n = (d : ℕ) × EndsAt d m × (min n (2 ^ 32 - 1) ≤ d) × (d ≤ n)

tick-counts : (b : Bool) (d n k end : ℕ) → k ≡ cond b 1 0 + n → min (cond b (min (d + 1) (2 ^ 32 - 1)) d + n) (2 ^ 32 - 1) ≤ end → end ≤ cond b (min (d + 1) (2 ^ 32 - 1)) d + n → (min (d + k) (2 ^ 32 - 1) ≤ end) × (end ≤ d + k)
tick-counts true d n k end e h g = (omega (arith, e, h), omega (arith, e, g))
tick-counts false d n k end e h g = (omega (arith, e, h), omega (arith, e, g))

runs-on : (m : MachineView) (is : List WorkerInput) (d : ℕ) → IsSound m → EndsAt d m → list_any is_end is ≡ false → Counts (after m is) (d + count_by is_tick is)
runs-on m [] d h at n = (d, at, omega arith, omega arith)
runs-on m (i ∷ is) d h at n =
    let parts = neither (is_end i) (list_any is_end is) n in
    let more = runs-on (machine_after m i) is (cond (is_tick i) (min (d + 1) (2 ^ 32 - 1)) d) (sound-step i m h) (at-step i d m h at parts.0) parts.1 in
    let counts = tick-counts (is_tick i) d (count_by is_tick is) (count_by is_tick (i ∷ is)) more.0 (counted is_tick i is) more.2 more.3 in
    (more.0, more.1, counts.0, counts.1)

-- what a tick tells of a program that is to end for so long
told-at : (d : ℕ) (m : MachineView) (wanted has_build : Bool) → EndsAt d m → (effect_of m (Tick wanted has_build)).ends ≡ act_at (Some (min (d + 1) (2 ^ 32 - 1)))
told-at d m wanted has_build at = ap (λ o. act_at (after_tick o)) (unneeded-at d m wanted at).1

kills-late : (n : ℕ) → 1000 ≤ n → is_kill (act_at (Some n)) ≡ true
kills-late n h =
    let late : nat_le 1000 n ≡ true = grind (arith, nat_tests, h) in
    ap (λ b. is_kill (cond b end_act.Kill (cond (n == 200) end_act.Ask end_act.None))) late

kill-told : (m : MachineView) (n : ℕ) (wanted has_build : Bool) → Counts m n → 999 ≤ n → kills (effect_of m (Tick wanted has_build)) ≡ true
kill-told m n wanted has_build c le =
    ap is_kill (told-at c.0 m wanted has_build c.1) ∙ kills-late (min (c.0 + 1) (2 ^ 32 - 1)) (omega (arith, c.2, le))

pub asked_in_time : AskedInTime
asked_in_time m ticks is wanted has_build h on e =
    let c = runs-on m is ticks h (on.0, on.1) on.2 in
    let same : min (c.0 + 1) (2 ^ 32 - 1) ≡ 200 = omega (arith, c.2, c.3, e) in
    ap is_ask (told-at c.0 (after m is) wanted has_build c.1) ∙ ap (λ n. is_ask (act_at (Some n))) same

pub killed_in_time : KilledInTime
killed_in_time m ticks is wanted has_build h on le =
    kill-told (after m is) (ticks + count_by is_tick is) wanted has_build (runs-on m is ticks h (on.0, on.1) on.2) le

begun-at : (o : Option ℕ) → (d : ℕ) × (begun o ≡ Some d)
begun-at (Some t) = (t, refl)
begun-at None = (0, refl)

pub none_is_forgotten : NoneIsForgotten
none_is_forgotten m is wanted has_build h r n =
    let over = machine_after m Over in
    let from = begun-at m.deadline in
    let at : over.deadline ≡ Some from.0 = ap (λ b. cond b (begun m.deadline) m.deadline) r ∙ from.1 in
    let sound-over : IsSound over = sound-step Over m h in
    let c = runs-on over is from.0 sound-over (r, at) n in
    let asked : AskedBy (after over is).asked (Some c.0) = subst (AskedBy (after over is).asked) c.1.1 (sound over is sound-over).0 in
    (λ le. asked (omega (arith, c.2, le)), λ le. kill-told (after over is) (from.0 + count_by is_tick is) wanted has_build c (omega (arith, le)))

-- Telling a worker to shut down. A latent worker leaves `Substantiated` when it is to stop, and
-- comes back there only once it logs in.

abbrev enters : LatentEvent → Bool
enters latent.Attached = true
enters latent.Lost = true
enters e = false

abbrev Stays : LatentState × Act → Type 0
Stays r = (is_substantiated r.0 ≡ false) × (is_stop r.1 ≡ false)

row-stays : (s : LatentState) (e : LatentEvent) (last : Bool) → enters e ≡ false → is_substantiated s ≡ false → Stays (row s e last)
row-stays s latent.Attached last h g = absurd (true≢false h)
row-stays s latent.Lost last h g = absurd (true≢false h)
row-stays Substantiated e last h g = absurd (true≢false g)
row-stays Not latent.Want last h g = (refl, refl)
row-stays Not e last h g = (refl, refl)
row-stays Substantiating latent.Failed last h g = (refl, refl)
row-stays Substantiating e last h g = (refl, refl)
row-stays Insubstantiating latent.Want last h g = (refl, refl)
row-stays Insubstantiating e last h g = (refl, refl)
row-stays Waiting latent.Stopped last h g = (refl, refl)
row-stays Waiting e last h g = (refl, refl)
row-stays Held latent.Stopped last h g = (refl, refl)
row-stays Held e last h g = (refl, refl)

row-leaves : (s : LatentState) (e : LatentEvent) (last : Bool) → (is_stop (row s e last).1 && is_substantiated (row s e last).0) ≡ false
row-leaves Not latent.Want last = refl
row-leaves Not e last = refl
row-leaves Substantiating latent.Want last = refl
row-leaves Substantiating e last = refl
row-leaves Substantiated latent.IdleTick true = refl
row-leaves Substantiated latent.IdleTick false = refl
row-leaves Substantiated e last = refl
row-leaves Insubstantiating latent.Want last = refl
row-leaves Insubstantiating e last = refl
row-leaves Waiting latent.Want last = refl
row-leaves Waiting e last = refl
row-leaves Held latent.Want last = refl
row-leaves Held e last = refl

run-stays : (w : LatentView) (es : List LatentEvent) → list_any enters es ≡ false → is_substantiated w.state ≡ false → (is_substantiated (latent_run w es).0.state ≡ false) × (is_stop (latent_run w es).1 ≡ false)
run-stays w [] h g = (g, refl)
run-stays w (e ∷ []) h g = row-stays w.state e (nat_le w.limit (w.idle + 1)) (neither (enters e) false h).0 g
run-stays w (d ∷ e ∷ es) h g =
    let parts = neither (enters d) (list_any enters (e ∷ es)) h in
    run-stays (standing_after w d) (e ∷ es) parts.1 (row-stays w.state d (nat_le w.limit (w.idle + 1)) parts.0 g).0

run-leaves : (w : LatentView) (es : List LatentEvent) → (is_stop (latent_run w es).1 && is_substantiated (latent_run w es).0.state) ≡ false
run-leaves w [] = refl
run-leaves w (e ∷ []) = row-leaves w.state e (nat_le w.limit (w.idle + 1))
run-leaves w (d ∷ e ∷ es) = run-leaves (standing_after w d) (e ∷ es)

told-enters : (p : WorkerView) (e : WorkerEvent) → is_anew e ≡ false → list_any enters (told p e) ≡ false
told-enters p event.Attached h = absurd (true≢false h)
told-enters p event.Lost h = absurd (true≢false h)
told-enters p event.Wanted h = both (λ es. list_any enters es ≡ false) p.full [] (latent.Want ∷ []) refl refl
told-enters p event.Stopped h = both (λ es. list_any enters es ≡ false) p.attached [] (latent.Stopped ∷ []) refl refl
told-enters p (event.Tick has_build) h = both (λ es. list_any enters es ≡ false) has_build [] (latent.IdleTick ∷ []) refl refl
told-enters p e h = refl

-- a latent worker that may be told to stop
abbrev may_stop : Option LatentView → Bool
may_stop (Some w) = is_substantiated w.state
may_stop None = false

known-stays : (p : WorkerView) (e : WorkerEvent) → is_anew e ≡ false → may_stop p.latent ≡ false → (may_stop (known_after p e).latent ≡ false) × (is_stop (act_of p e) ≡ false)
known-stays p e h = go p.latent
  where
    go : (o : Option LatentView) → may_stop o ≡ false → (may_stop (option_map (λ w. (latent_run w (told p e)).0) o) ≡ false) × (is_stop (option_map_or (λ w. (latent_run w (told p e)).1) o act.None) ≡ false)
    go (Some w) g = run-stays w (told p e) (told-enters p e h) g
    go None g = (refl, refl)

known-leaves : (p : WorkerView) (e : WorkerEvent) → (is_stop (act_of p e) && may_stop (known_after p e).latent) ≡ false
known-leaves p e = go p.latent
  where
    go : (o : Option LatentView) → (is_stop (option_map_or (λ w. (latent_run w (told p e)).1) o act.None) && may_stop (option_map (λ w. (latent_run w (told p e)).0) o)) ≡ false
    go (Some w) = run-leaves w (told p e)
    go None = refl

to-stop-leaves : (o : Option LatentView) → option_map_or (λ w. is_stopping w.state) o false ≡ true → may_stop o ≡ false
to-stop-leaves None h = refl
to-stop-leaves (Some w) h = go w.state h
  where
    go : (s : LatentState) → is_stopping s ≡ true → is_substantiated s ≡ false
    go Substantiated g = absurd (true≢false (sym g))
    go s g = refl

and-then : (a b : Bool) → a ≡ true → (a && b) ≡ false → b ≡ false
and-then true b h g = g
and-then false b h g = absurd (true≢false (sym h))

second-of : (a b : Bool) → (a && b) ≡ true → b ≡ true
second-of true b h = h
second-of false b h = absurd (true≢false (sym h))

-- one that is told to shut down may not be told to stop again
dismissed-leaves : (p : WorkerView) (e : WorkerEvent) → is_dismissed (known_after p e) e (act_of p e) ≡ true → may_stop (known_after p e).latent ≡ false
dismissed-leaves p event.Attached h = to-stop-leaves (known_after p event.Attached).latent h
dismissed-leaves p event.Wanted h = and-then (is_stop (act_of p event.Wanted)) _ (second-of (known_after p event.Wanted).attached (is_stop (act_of p event.Wanted)) h) (known-leaves p event.Wanted)
dismissed-leaves p e h = and-then (is_stop (act_of p e)) _ (second-of (known_after p e).attached (is_stop (act_of p e)) h) (known-leaves p e)

not-both : (a b : Bool) → b ≡ false → (a && b) ≡ false
not-both true b h = h
not-both false b h = refl

stop-dismisses : (p : WorkerView) (e : WorkerEvent) → is_anew e ≡ false → is_stop (act_of p e) ≡ false → is_dismissed (known_after p e) e (act_of p e) ≡ false
stop-dismisses p event.Attached h g = absurd (true≢false h)
stop-dismisses p event.Wanted h g = not-both (known_after p event.Wanted).attached (is_stop (act_of p event.Wanted)) g
stop-dismisses p e h g = not-both (known_after p e).attached (is_stop (act_of p e)) g

shutdown-by : (s d : Bool) → is_shutdown (cond s process_act.Start (cond d process_act.Shutdown process_act.None)) ≡ true → d ≡ true
shutdown-by true d h = absurd (true≢false (sym h))
shutdown-by false true h = refl
shutdown-by false false h = h

no-shutdown : (s d : Bool) → d ≡ false → is_shutdown (cond s process_act.Start (cond d process_act.Shutdown process_act.None)) ≡ false
no-shutdown true d h = refl
no-shutdown false true h = h
no-shutdown false false h = refl

at-once-shutdown : (e : WorkerEvent) (a : ProcessAction) → is_shutdown (at_once e a) ≡ is_shutdown a
at-once-shutdown event.Wanted a = refl
at-once-shutdown e process_act.Start = refl
at-once-shutdown e process_act.None = refl
at-once-shutdown e process_act.Shutdown = refl

allowed-shutdown : (m : MachineView) (a : ProcessAction) → is_shutdown (allowed m a) ≡ is_shutdown a
allowed-shutdown m process_act.None = refl
allowed-shutdown m process_act.Shutdown = refl
allowed-shutdown m process_act.Start = both (λ a. is_shutdown a ≡ false) (m.running || m.starting) process_act.None process_act.Start refl refl

-- what an event tells is what it asks of the process
answer-shutdown : (m : MachineView) (e : WorkerEvent) → is_shutdown (answer m e).process ≡ is_shutdown (action_of m.known e).process
answer-shutdown m e = at-once-shutdown e (follows m e) ∙ allowed-shutdown m (action_of m.known e).process

-- where nothing more may be told before the worker is back
abbrev is_spent : MachineView → Bool
is_spent m = m.over || (m.dismissed && not (may_stop m.known.latent))

abbrev IsLeft : MachineView → Type 0
IsLeft m = (m.dismissed ≡ true) × (may_stop m.known.latent ≡ false)

spent-left : (m : MachineView) → IsLeft m → is_spent m ≡ true
spent-left m h = other-way m.over (m.dismissed && not (may_stop m.known.latent)) (ap (λ b. b && not (may_stop m.known.latent)) h.0 ∙ ap not h.1)

outlived-left : (m : MachineView) → IsLeft m → IsLeft (outlived m)
outlived-left m h = both IsLeft (is_to_stop m.known) (ending m) m h h

shutdown-left : (a : ProcessAction) (m : MachineView) → is_shutdown a ≡ true → may_stop m.known.latent ≡ false → IsLeft (ordered a m)
shutdown-left process_act.Shutdown m h g = (refl, g)
shutdown-left process_act.None m h g = absurd (true≢false (sym h))
shutdown-left process_act.Start m h g = absurd (true≢false (sym h))

ordered-left : (a : ProcessAction) (m : MachineView) → IsLeft m → IsLeft (ordered a m)
ordered-left process_act.Shutdown m h = (refl, h.1)
ordered-left process_act.None m h = h
ordered-left process_act.Start m h = h

heard-shutdown : (m : MachineView) (e : WorkerEvent) → is_shutdown (answer m e).process ≡ true → is_spent (heard m e) ≡ true
heard-shutdown m e h =
    let known = record m { known = known_after m.known e } in
    let asked : is_shutdown (action_of m.known e).process ≡ true = sym (answer-shutdown m e) ∙ h in
    let gone = dismissed-leaves m.known e (shutdown-by (is_start (act_of m.known e)) (is_dismissed (known_after m.known e) e (act_of m.known e)) asked) in
    let left = shutdown-left (follows m e) known (allowed-shutdown m (action_of m.known e).process ∙ asked) gone in
    spent-left (heard m e) (outlived-left (ordered (follows m e) known) left)

abbrev StaysLeft : Bool → MachineView → Type 0
StaysLeft tells n = (tells ≡ false) × IsLeft n

heard-left : (m : MachineView) (e : WorkerEvent) → is_anew e ≡ false → IsLeft m → StaysLeft (is_shutdown (answer m e).process) (heard m e)
heard-left m e r h =
    let known = record m { known = known_after m.known e } in
    let stays = known-stays m.known e r h.1 in
    let none = no-shutdown (is_start (act_of m.known e)) _ (stop-dismisses m.known e r stays.1) in
    (answer-shutdown m e ∙ none, outlived-left (ordered (follows m e) known) (ordered-left (follows m e) known (h.0, stays.0)))

-- what holds of two answers and where they leave the machine holds of both by the same test
both-ways : {A : Type 0} (P : A → MachineView → Type 0) (b : Bool) (x y : A) (m n : MachineView) → P x m → P y n → P (cond b x y) (cond b m n)
both-ways P true x y m n h g = h
both-ways P false x y m n h g = g

unless : (P : WorkerAction → MachineView → Type 0) (o l : Bool) (x y : WorkerAction) (m c n : MachineView) → P x m → P x c → P y n → P (cond (o || l) x y) (cond l m (cond o c n))
unless P true true x y m c n f h g = f
unless P true false x y m c n f h g = h
unless P false true x y m c n f h g = f
unless P false false x y m c n f h g = g

abbrev Spends : WorkerAction → MachineView → Type 0
Spends a n = is_shutdown a.process ≡ true → is_spent n ≡ true

nothing-spends : (m n : MachineView) → Spends (nothing m) n
nothing-spends m n s = absurd (true≢false (sym s))

spends-step : (i : WorkerInput) (m : MachineView) → Spends (effect_of m i).action (machine_after m i)
spends-step (Happened e) m =
    unless Spends m.over (not (is_of_lane e)) (nothing m) (answer (came m e) e) m (came m e) (heard (came m e) e) (nothing-spends m m) (nothing-spends m (came m e)) (heard-shutdown (came m e) e)
spends-step Started m =
    both-ways Spends m.starting (answer (runs m) event.Started) (nothing m) (heard (runs m) event.Started) m (heard-shutdown (runs m) event.Started) (nothing-spends m m)
spends-step (Refused may_pass) m =
    both-ways (λ e n. Spends e.action n) (not m.starting || is_tried_again m may_pass) (does (nothing m)) _ m (heard (unstarted m) (fault m)) (nothing-spends m m) (heard-shutdown (unstarted m) (fault m))
spends-step Ended m =
    unless Spends m.over (not m.running) (nothing m) (spared m.asked (answer (stopped m) event.Stopped)) m (stopped m) (heard (stopped m) event.Stopped) (nothing-spends m m) (nothing-spends m (stopped m)) (heard-shutdown (stopped m) event.Stopped)
spends-step (Tick wanted has_build) m =
    let n = ticked (unneeded m wanted) in
    let tick = event.Tick (is_occupied n.known wanted has_build) in
    both-ways Spends n.over (nothing n) _ n _ (nothing-spends n n)
    (both-ways Spends n.starting _ (answer n tick) _ (heard n tick)
    (both-ways Spends wanted _ (answer (unstarted n) (fault n)) n (heard (unstarted n) (fault n)) (λ s. absurd (true≢false (sym s))) (heard-shutdown (unstarted n) (fault n)))
    (heard-shutdown n tick))
spends-step Over m = λ s. refl

abbrev Leaves : WorkerAction → MachineView → Type 0
Leaves a n = StaysLeft (is_shutdown a.process) n

came-left : (m : MachineView) (e : WorkerEvent) → is_anew e ≡ false → IsLeft m → IsLeft (came m e)
came-left m event.Attached r h = absurd (true≢false r)
came-left m event.Lost r h = absurd (true≢false r)
came-left m e r h = h

no-fault-comes_anew : (m : MachineView) → is_anew (fault m) ≡ false
no-fault-comes_anew m = both (λ e. is_anew e ≡ false) (is_ready m.known) event.Stopped event.Failed refl refl

over-shuts : (m : MachineView) → (m.over || m.dismissed) ≡ true → shuts_down (effect_of m Over) ≡ false
over-shuts m h = go m.running m.over m.dismissed h
  where
    go : (r o d : Bool) → (o || d) ≡ true → shuts_down (effect_of (record m { running = r; over = o; dismissed = d }) Over) ≡ false
    go false o d h = refl
    go true true d h = refl
    go true false true h = refl
    go true false false h = absurd (true≢false (sym h))

left-step : (i : WorkerInput) (m : MachineView) → comes_anew i ≡ false → IsLeft m → Leaves (effect_of m i).action (machine_after m i)
left-step (Happened e) m r h =
    let here = came-left m e r h in
    unless Leaves m.over (not (is_of_lane e)) (nothing m) (answer (came m e) e) m (came m e) (heard (came m e) e) (refl, h) (refl, here) (heard-left (came m e) e r here)
left-step Started m r h =
    both-ways Leaves m.starting (answer (runs m) event.Started) (nothing m) (heard (runs m) event.Started) m (heard-left (runs m) event.Started refl h) (refl, h)
left-step (Refused may_pass) m r h =
    both-ways (λ e n. Leaves e.action n) (not m.starting || is_tried_again m may_pass) (does (nothing m)) _ m (heard (unstarted m) (fault m)) (refl, h) (heard-left (unstarted m) (fault m) (no-fault-comes_anew m) h)
left-step Ended m r h =
    unless Leaves m.over (not m.running) (nothing m) (spared m.asked (answer (stopped m) event.Stopped)) m (stopped m) (heard (stopped m) event.Stopped) (refl, h) (refl, h) (heard-left (stopped m) event.Stopped refl h)
left-step (Tick wanted has_build) m r h =
    let n = ticked (unneeded m wanted) in
    let tick = event.Tick (is_occupied n.known wanted has_build) in
    let left : IsLeft n = both IsLeft (is_needless m.known wanted) (ending m) m h h in
    both-ways Leaves n.over (nothing n) _ n _ (refl, left)
    (both-ways Leaves n.starting _ (answer n tick) _ (heard n tick)
    (both-ways Leaves wanted _ (answer (unstarted n) (fault n)) n (heard (unstarted n) (fault n)) (refl, left) (heard-left (unstarted n) (fault n) (no-fault-comes_anew n) left))
    (heard-left n tick refl left))
left-step Over m r h = (over-shuts m (other-way m.over m.dismissed h.0), (either-way m.dismissed _ h.0, h.1))

-- Once the master ends nothing is told. What a start or its end tells is never a shutdown.

abbrev is_calm : LatentEvent → Bool
is_calm latent.Started = true
is_calm latent.Failed = true
is_calm latent.Stopped = true
is_calm e = false

row-calm : (s : LatentState) (e : LatentEvent) (last : Bool) → is_calm e ≡ true → is_stop (row s e last).1 ≡ false
row-calm Not latent.Started last h = refl
row-calm Not latent.Failed last h = refl
row-calm Not latent.Stopped last h = refl
row-calm Substantiating latent.Started last h = refl
row-calm Substantiating latent.Failed last h = refl
row-calm Substantiating latent.Stopped last h = refl
row-calm Substantiated latent.Started last h = refl
row-calm Substantiated latent.Failed last h = refl
row-calm Substantiated latent.Stopped last h = refl
row-calm Insubstantiating latent.Started last h = refl
row-calm Insubstantiating latent.Failed last h = refl
row-calm Insubstantiating latent.Stopped last h = refl
row-calm Waiting latent.Started last h = refl
row-calm Waiting latent.Failed last h = refl
row-calm Waiting latent.Stopped last h = refl
row-calm Held latent.Started last h = refl
row-calm Held latent.Failed last h = refl
row-calm Held latent.Stopped last h = refl
row-calm s e last h = absurd (true≢false (sym h))

calm-act : (p : WorkerView) (e : WorkerEvent) (d : LatentEvent) → told p e ≡ d ∷ [] → is_calm d ≡ true → is_stop (act_of p e) ≡ false
calm-act p e d t h = go p.latent
  where
    go : (o : Option LatentView) → is_stop (option_map_or (λ w. (latent_run w (told p e)).1) o act.None) ≡ false
    go (Some w) = ap (λ es. is_stop (latent_run w es).1) t ∙ row-calm w.state d (nat_le w.limit (w.idle + 1)) h
    go None = refl

no-act : (p : WorkerView) (e : WorkerEvent) → told p e ≡ [] → is_stop (act_of p e) ≡ false
no-act p e t = go p.latent
  where
    go : (o : Option LatentView) → is_stop (option_map_or (λ w. (latent_run w (told p e)).1) o act.None) ≡ false
    go (Some w) = ap (λ es. is_stop (latent_run w es).1) t
    go None = refl

calm-answer : (m : MachineView) (e : WorkerEvent) → is_anew e ≡ false → is_stop (act_of m.known e) ≡ false → is_shutdown (answer m e).process ≡ false
calm-answer m e r h = answer-shutdown m e ∙ no-shutdown (is_start (act_of m.known e)) _ (stop-dismisses m.known e r h)

stopped-act : (p : WorkerView) → is_stop (act_of p event.Stopped) ≡ false
stopped-act p = go p.attached refl
  where
    go : (b : Bool) → p.attached ≡ b → is_stop (act_of p event.Stopped) ≡ false
    go true e = no-act p event.Stopped (ap (λ b. cond b [] (latent.Stopped ∷ [])) e)
    go false e = calm-act p event.Stopped latent.Stopped (ap (λ b. cond b [] (latent.Stopped ∷ [])) e) refl

fault-answer : (m : MachineView) → is_shutdown (answer (unstarted m) (fault m)).process ≡ false
fault-answer m =
    both (λ e. is_shutdown (answer (unstarted m) e).process ≡ false) (is_ready m.known) event.Stopped event.Failed
    (calm-answer (unstarted m) event.Stopped refl (stopped-act m.known))
    (calm-answer (unstarted m) event.Failed refl (calm-act m.known event.Failed latent.Failed refl refl))

over-tick : (n : MachineView) (wanted has_build : Bool) → n.over ≡ true → is_shutdown (tick_action n wanted has_build).process ≡ false
over-tick n wanted has_build h = go n.over h
  where
    rest : WorkerAction
    rest = cond n.starting (cond wanted (record { ready = is_ready n.known; process = process_act.Start; gives_up = false }) (answer (unstarted n) (fault n))) (answer n (event.Tick (is_occupied n.known wanted has_build)))

    go : (b : Bool) → b ≡ true → is_shutdown (cond b (nothing n) rest).process ≡ false
    go true e = refl
    go false e = absurd (true≢false (sym e))

over-step-tells : (i : WorkerInput) (m : MachineView) → m.over ≡ true → shuts_down (effect_of m i) ≡ false
over-step-tells (Happened e) m h = ap (λ o. is_shutdown (cond (o || not (is_of_lane e)) (nothing m) (answer (came m e) e)).process) h
over-step-tells Started m h =
    both (λ a. is_shutdown a.process ≡ false) m.starting (answer (runs m) event.Started) (nothing m)
    (calm-answer (runs m) event.Started refl (calm-act m.known event.Started latent.Started refl refl)) refl
over-step-tells (Refused may_pass) m h =
    both (λ e. shuts_down e ≡ false) (not m.starting || is_tried_again m may_pass) (does (nothing m)) _ refl (fault-answer m)
over-step-tells Ended m h =
    ap (λ o. is_shutdown (cond (o || not m.running) (nothing m) (spared m.asked (answer (stopped m) event.Stopped))).process) h
over-step-tells (Tick wanted has_build) m h =
    let n = ticked (unneeded m wanted) in
    over-tick n wanted has_build ((unneeded-keeps m wanted).2 ∙ h)
over-step-tells Over m h = over-shuts m (either-way m.over m.dismissed h)

spent-parts : (d s : Bool) → (d && not s) ≡ true → (d ≡ true) × (s ≡ false)
spent-parts true false h = (refl, refl)
spent-parts true true h = absurd (true≢false (sym h))
spent-parts false s h = absurd (true≢false (sym h))

spent-step : (i : WorkerInput) (m : MachineView) → comes_anew i ≡ false → is_spent m ≡ true → (shuts_down (effect_of m i) ≡ false) × (is_spent (machine_after m i) ≡ true)
spent-step i m r h = go m.over refl
  where
    rest : Bool
    rest = m.dismissed && not (may_stop m.known.latent)

    go : (b : Bool) → m.over ≡ b → (shuts_down (effect_of m i) ≡ false) × (is_spent (machine_after m i) ≡ true)
    go true o = (over-step-tells i m o, either-way (machine_after m i).over _ (over-step i m o))
    go false o =
        let left = left-step i m r (spent-parts m.dismissed (may_stop m.known.latent) (sym (ap (λ b. b || rest) o) ∙ h)) in
        (left.0, spent-left (machine_after m i) left.1)

one-or-none : (b : Bool) → cond b 1 0 ≤ 1
one-or-none true = omega arith
one-or-none false = omega arith

pays : (t s r n : Bool) → (t ≡ true → n ≡ true) → (r ≡ false → s ≡ true → (t ≡ false) × (n ≡ true)) → cond t 1 0 + cond s 1 0 ≤ cond r 1 0 + cond n 1 0
pays true s true n h g = let one = same-count n true (h refl) in omega (arith, one, one-or-none s)
pays false s true n h g = omega (arith, one-or-none s)
pays true true false n h g = absurd (true≢false (g refl refl).0)
pays true false false n h g = let one = same-count n true (h refl) in omega (arith, one)
pays false true false n h g = let one = same-count n true (g refl refl).1 in omega (arith, one)
pays false false false n h g = omega arith

shutdowns : (m : MachineView) (is : List WorkerInput) → count_by shuts_down (effects m is) + cond (is_spent m) 1 0 ≤ 1 + count_by comes_anew is
shutdowns m [] = omega (arith, one-or-none (is_spent m))
shutdowns m (i ∷ is) =
    let one = pays (shuts_down (effect_of m i)) (is_spent m) (comes_anew i) (is_spent (machine_after m i)) (spends-step i m) (spent-step i m) in
    omega (arith, one, shutdowns (machine_after m i) is, counted shuts_down (effect_of m i) (effects (machine_after m i) is), counted comes_anew i is)

pub told_once_to_shut_down : ToldOnceToShutDown
told_once_to_shut_down m is = omega (arith, shutdowns m is)

-- one that was told stays dismissed
abbrev IsDismissed : MachineView → Type 0
IsDismissed m = m.dismissed ≡ true

ordered-dismissed : (a : ProcessAction) (m : MachineView) → IsDismissed m → IsDismissed (ordered a m)
ordered-dismissed process_act.Shutdown m h = refl
ordered-dismissed process_act.None m h = h
ordered-dismissed process_act.Start m h = h

heard-dismissed : (m : MachineView) (e : WorkerEvent) → IsDismissed m → IsDismissed (heard m e)
heard-dismissed m e h =
    let n = ordered (follows m e) (record m { known = known_after m.known e }) in
    let told = ordered-dismissed (follows m e) (record m { known = known_after m.known e }) h in
    both IsDismissed (is_to_stop n.known) (ending n) n told told

came-dismissed : (m : MachineView) (e : WorkerEvent) → is_anew e ≡ false → IsDismissed m → IsDismissed (came m e)
came-dismissed m event.Attached r h = absurd (true≢false r)
came-dismissed m event.Lost r h = absurd (true≢false r)
came-dismissed m e r h = h

dismissed-step : (i : WorkerInput) (m : MachineView) → comes_anew i ≡ false → IsDismissed m → IsDismissed (machine_after m i)
dismissed-step (Happened e) m r h =
    both IsDismissed (not (is_of_lane e)) m _ h
    (both IsDismissed m.over (came m e) (heard (came m e) e) (came-dismissed m e r h) (heard-dismissed (came m e) e (came-dismissed m e r h)))
dismissed-step Started m r h = both IsDismissed m.starting (heard (runs m) event.Started) m (heard-dismissed (runs m) event.Started h) h
dismissed-step (Refused may_pass) m r h =
    both IsDismissed (not m.starting || is_tried_again m may_pass) m (heard (unstarted m) (fault m)) h (heard-dismissed (unstarted m) (fault m) h)
dismissed-step Ended m r h =
    both IsDismissed (not m.running) m _ h
    (both IsDismissed m.over (stopped m) (heard (stopped m) event.Stopped) h (heard-dismissed (stopped m) event.Stopped h))
dismissed-step (Tick wanted has_build) m r h =
    let n = ticked (unneeded m wanted) in
    let tick = event.Tick (is_occupied n.known wanted has_build) in
    let here : IsDismissed n = both IsDismissed (is_needless m.known wanted) (ending m) m h h in
    both IsDismissed n.over n _ here
    (both IsDismissed n.starting _ (heard n tick)
    (both IsDismissed wanted n (heard (unstarted n) (fault n)) here (heard-dismissed (unstarted n) (fault n) here))
    (heard-dismissed n tick here))
dismissed-step Over m r h = either-way m.dismissed _ h

pub dismissed_are_not_told : DismissedAreNotTold
dismissed_are_not_told m [] h r = over-shuts m (other-way m.over m.dismissed h)
dismissed_are_not_told m (i ∷ is) h r =
    let parts = neither (comes_anew i) (list_any comes_anew is) r in
    dismissed_are_not_told (machine_after m i) is (dismissed-step i m parts.0 h) parts.1
