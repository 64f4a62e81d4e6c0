-- What an input takes of a command's weight, which counts what may still be told of it.
use Rattle.std.proofs.Common.{◌≡◌, refl, sym, ap, ◌∙◌, subst, ℕ, ◌+◌, ◌≤◌, Bool, true, false, cond, List, [], ◌∷◌, ◌++◌, map, Option, Some, None, arith}
use Rattle.std.specs.Prelude.{◌==◌, ◌-◌, nat_lt, max, slice_get, slice_set, remove, position, ◌||◌, ◌&&◌, ℤ}
use Rattle.std.specs.List.{sum_by}
use Rattle.std.proofs.lemmas.Bool.Decides.{nat_tests}
use Rattle.std.proofs.lemmas.List.Sums.{sum_by-cons, sum_by-remove, sum_by-set, sum_by_push}
use Rattle.std.proofs.lemmas.Option.{slice_get_within, get_or_from_slice_get}
use Rattle.bm_outbox.specs.Pipes.{are_held, are_over}
use Rattle.bm_outbox.specs.Stopping.{stop_end, stopped_ms}
use Rattle.bm_outbox.specs.declared.command_end.CommandEnd.TheVariants as command_end
use Rattle.bm_outbox.specs.declared.pipes.ExitCode.{ExitCode}
use Rattle.bm_outbox.specs.declared.stopping.Leftover.{Leftover}
use Rattle.bm_outbox.specs.declared.stopping.StopCause.{StopCause}
use Rattle.bm_outbox.specs.declared.stopping.StopCause.TheVariants as cause
use Rattle.bm_outbox.specs.declared.stopping.Sweep.{Sweep}
use Rattle.bm_outbox.specs.declared.stopping.Sweep.TheVariants as sweep
use Rattle.bm_commands.specs.declared.values.ChildState.{ChildState}
use Rattle.bm_commands.specs.declared.values.ChildState.TheVariants as child
use Rattle.bm_commands.specs.declared.values.ProcessLook.{ProcessLook}
use Rattle.bm_commands.specs.declared.values.ProcessInput.{ProcessInput}
use Rattle.bm_commands.specs.declared.values.ProcessInput.TheVariants as told
use Rattle.bm_commands.specs.declared.values.Input.{Input}
use Rattle.bm_commands.specs.declared.values.Input.TheVariants as input
use Rattle.bm_commands.specs.declared.values.Effect.{Effect}
use Rattle.bm_commands.specs.declared.values.Effect.TheVariants as effect
use Rattle.bm_commands.specs.declared.values.CommandPhase.{CommandPhase}
use Rattle.bm_commands.specs.declared.values.CommandPhase.TheVariants as phase
use Rattle.bm_commands.specs.declared.values.CommandRow.{CommandRow}
use Rattle.bm_commands.specs.Rows.{cell, end_effect, end_effect_in, fresh_row, glanced, has_end, has_text, held_after, interrupted_in, is_command, is_due, is_gone, is_heard, is_lost, is_process, is_told, killed, looked_in, lost, owed_looked_to, running_looked, stop_looked_to, swept, without_memory_in}
use Rattle.std.proofs.lemmas.List.Quantifiers.{position-Some}
use Rattle.bm_commands.specs.Laws.{Event, admits, steps, moved, after, effects, total}
use Rattle.bm_commands.specs.Queues.{Acted, IsOwn, QueuesView, admitted, changed, changed_to, ends_or, forgets_or, forgotten_to, is_alone, killed_to, kills_or, look_to, looks, stepped, texts_or, told_end_to, told_text_to}

-- both choices of a test
pub both : {A : Type 0} (P : A → Type 0) (b : Bool) (x y : A) → P x → P y → P (cond b x y)
both P true x y h g = h
both P false x y h g = g

-- the rows and the effect that follow such an input
abbrev pub OnRows : (List CommandRow → Acted → Type 0) → QueuesView → ℕ → Input → Type 0
OnRows Good q now input.SessionLost = Unit {0}
OnRows Good q now input.Ends = Unit {0}
OnRows Good q now i = Good q.rows ((stepped q now i).0.rows, (stepped q now i).1)

-- effects that every law lets pass
pub record IsFree (cost : Effect → ℕ) : Type 0 where
  pub nothing : cost effect.Nothing ≡ 0
  pub keep : cost effect.Keep ≡ 0
  pub kill : (k : ℕ) → cost (effect.Kill k) ≡ 0
  pub look : (k : ℕ) → cost (effect.Look k) ≡ 0
  pub forget : (k : ℕ) → cost (effect.Forget k) ≡ 0
  pub sweep : cost effect.SweepAll ≡ 0

-- an input of one process has no other effect than these three
module _ (P : Effect → Type 0) (nothing : P effect.Nothing) (keep : P effect.Keep) (kill : (k : ℕ) → P (effect.Kill k)) where
  quiet-interrupted : (q : CommandPhase) (now : ℕ) (r : CommandRow) → P (interrupted_in q now r).1
  quiet-interrupted phase.Runs now r = kill r.process
  quiet-interrupted (phase.Over (command_end.Code c)) now r = kill r.process
  quiet-interrupted (phase.Over (command_end.Held c)) now r = kill r.process
  quiet-interrupted q now r = nothing

  quiet-memory : (q : CommandPhase) (now : ℕ) (r : CommandRow) → P (without_memory_in q now r).1
  quiet-memory phase.Runs now r = both (λ (x : CommandRow × Effect). P x.1) (are_over r.pipes) _ _ nothing (kill r.process)
  quiet-memory q now r = nothing

  pub quiet-cell : (now : ℕ) (r : CommandRow) (i : ProcessInput) → P (cell now r i).1
  quiet-cell now r told.Text = both (λ (x : CommandRow × Effect). P x.1) (is_heard r.phase r.pipes) _ _ keep nothing
  quiet-cell now r (told.PipeEnded end) = nothing
  quiet-cell now r told.NoMemory = quiet-memory r.phase now r
  quiet-cell now r told.Interrupted = quiet-interrupted r.phase now r
  quiet-cell now r (told.Looked seen) = nothing
  quiet-cell now r told.NotStarted = nothing
  quiet-cell now r told.Unread = nothing

pub free-cell : (cost : Effect → ℕ) → IsFree cost → (now : ℕ) (r : CommandRow) (i : ProcessInput) → cost (cell now r i).1 ≡ 0
free-cell cost free = quiet-cell (λ e. cost e ≡ 0) free.nothing free.keep free.kill

-- What holds of each way in which rows are changed holds of an input.
module _
    (Good : List CommandRow → Acted → Type 0)
    (idle : (rows : List CommandRow) → Good rows (rows, effect.Nothing))
    (look : (rows : List CommandRow) (k : ℕ) → Good rows (rows, effect.Look k))
    (cells : (now : ℕ) (i : ProcessInput) (rows : List CommandRow) (at : ℕ) (r : CommandRow) → slice_get rows at ≡ Some r → Good rows (slice_set rows at (cell now r i).0, (cell now r i).1))
    (kills : (now : ℕ) (rows : List CommandRow) (at : ℕ) (r : CommandRow) → slice_get rows at ≡ Some r → Good rows (slice_set rows at (killed now r), effect.Kill r.process))
    (forgets : (rows : List CommandRow) (at : ℕ) (r : CommandRow) → slice_get rows at ≡ Some r → position is_gone rows ≡ Some at → Good rows (remove rows at, effect.Forget r.process))
    (ends : (rows : List CommandRow) (at : ℕ) (r : CommandRow) → slice_get rows at ≡ Some r → position has_end rows ≡ Some at → Good rows (remove rows at, end_effect r))
    (texts : (rows : List CommandRow) (at : ℕ) (r : CommandRow) → slice_get rows at ≡ Some r → position has_text rows ≡ Some at → Good rows (remove rows at ++ record r { texts = r.texts - 1 } ∷ [], effect.TellText r.process r.pipes.command)) where
  on-changed-to : (now : ℕ) (i : ProcessInput) (rows : List CommandRow) (at : ℕ) (o : Option CommandRow) → slice_get rows at ≡ o → Good rows (changed_to now i rows at o)
  on-changed-to now i rows at (Some r) e = cells now i rows at r e
  on-changed-to now i rows at None e = idle rows

  on-changed : (now : ℕ) (i : ProcessInput) (rows : List CommandRow) (o : Option ℕ) → Good rows (changed now i rows o)
  on-changed now i rows (Some at) = on-changed-to now i rows at (slice_get rows at) refl
  on-changed now i rows None = idle rows

  on-killed : (now : ℕ) (rows : List CommandRow) (at : ℕ) (o : Option CommandRow) → slice_get rows at ≡ o → Good rows (killed_to now rows at o)
  on-killed now rows at (Some r) e = kills now rows at r e
  on-killed now rows at None e = idle rows

  on-forgotten : (rows : List CommandRow) (at : ℕ) (o : Option CommandRow) → slice_get rows at ≡ o → position is_gone rows ≡ Some at → Good rows (forgotten_to rows at o)
  on-forgotten rows at (Some r) e first = forgets rows at r e first
  on-forgotten rows at None e first = idle rows

  on-look : (rows : List CommandRow) (o : Option CommandRow) → Good rows (rows, look_to o)
  on-look rows (Some r) = look rows r.process
  on-look rows None = idle rows

  on-looks : (rows : List CommandRow) (o : Option ℕ) → Good rows (looks rows o)
  on-looks rows (Some at) = on-look rows (slice_get rows at)
  on-looks rows None = idle rows

  on-forgets : (o : Option ℕ) (now : ℕ) (rows : List CommandRow) → position is_gone rows ≡ o → Good rows (forgets_or o now rows)
  on-forgets (Some at) now rows first = on-forgotten rows at (slice_get rows at) refl first
  on-forgets None now rows first = on-looks rows (position (is_due now) rows)

  on-kills : (o : Option ℕ) (now : ℕ) (rows : List CommandRow) → Good rows (kills_or o now rows)
  on-kills (Some at) now rows = on-killed now rows at (slice_get rows at) refl
  on-kills None now rows = on-forgets (position is_gone rows) now rows refl

  on-end : (rows : List CommandRow) (at : ℕ) (o : Option CommandRow) → slice_get rows at ≡ o → position has_end rows ≡ Some at → Good rows (told_end_to rows at o)
  on-end rows at (Some r) e first = ends rows at r e first
  on-end rows at None e first = idle rows

  on-text : (may_say : Bool) (rows : List CommandRow) (at : ℕ) (o : Option CommandRow) → slice_get rows at ≡ o → position has_text rows ≡ Some at → Good rows (told_text_to may_say rows at o)
  on-text may_say rows at (Some r) e first = both (Good rows) (may_say || is_alone r.process rows) _ _ (texts rows at r e first) (idle rows)
  on-text may_say rows at None e first = idle rows

  on-texts : (o : Option ℕ) (may_say : Bool) (rows : List CommandRow) → position has_text rows ≡ o → Good rows (texts_or o may_say rows)
  on-texts (Some at) may_say rows first = on-text may_say rows at (slice_get rows at) refl first
  on-texts None may_say rows first = idle rows

  on-ends : (o : Option ℕ) (may_say : Bool) (rows : List CommandRow) → position has_end rows ≡ o → Good rows (ends_or o may_say rows)
  on-ends (Some at) may_say rows first = on-end rows at (slice_get rows at) refl first
  on-ends None may_say rows first = on-texts (position has_text rows) may_say rows refl

  -- of an input that changes rows one by one
  pub walk : (q : QueuesView) (now : ℕ) (i : Input) → OnRows Good q now i
  walk q now (input.Process k i) = on-changed (max q.now_ms now) i q.rows (position (is_process k) q.rows)
  walk q now (input.Interrupt k) = on-changed (max q.now_ms now) told.Interrupted q.rows (position (is_command k) q.rows)
  walk q now input.SessionLost = tt
  walk q now input.Ends = tt
  walk q now input.Tick = on-kills (position is_lost q.rows) (max q.now_ms now) q.rows
  walk q now (input.Turn may_say) = on-ends (position has_end q.rows) may_say q.rows refl

-- an exit code is told of the command whose pipes gave it
own-end : (q : CommandPhase) (r : CommandRow) → IsOwn (end_effect_in q r)
own-end (phase.Over (command_end.Code c)) r = refl
own-end (phase.Over (command_end.Held c)) r = refl
own-end (phase.Over (command_end.Stopped why left)) r = tt
own-end q r = tt

abbrev Owns : List CommandRow → Acted → Type 0
Owns rows a = IsOwn a.1

own-walk : (q : QueuesView) (now : ℕ) (i : Input) → OnRows Owns q now i
own-walk = walk Owns (λ rows. tt) (λ rows k. tt) (λ now i rows at r e. quiet-cell IsOwn tt tt (λ k. tt) now r i) (λ now rows at r e. tt) (λ rows at r e first. tt) (λ rows at r e first. own-end r.phase r) (λ rows at r e first. tt)

pub own_step : (q : QueuesView) (now : ℕ) (i : Input) → IsOwn (stepped q now i).1
own_step q now (input.Process k i) = own-walk q now (input.Process k i)
own_step q now (input.Interrupt k) = own-walk q now (input.Interrupt k)
own_step q now input.SessionLost = tt
own_step q now input.Ends = both IsOwn q.is_ending _ _ tt tt
own_step q now input.Tick = own-walk q now input.Tick
own_step q now (input.Turn may_say) = own-walk q now (input.Turn may_say)

-- A weight of phases that no input makes greater.
pub record Weight (lv : CommandPhase → ℕ) : Type 0 where
  pub small : lv phase.Runs ≤ 1
  pub runs : (b : CommandPhase) → lv b ≤ lv phase.Runs
  pub code : (c : ExitCode) (why : StopCause) (t : ℕ) → lv (phase.Stopping why t) ≤ lv (phase.Over (command_end.Code c))
  pub held : (c : ExitCode) (why : StopCause) (t : ℕ) → lv (phase.Stopping why t) ≤ lv (phase.Over (command_end.Held c))
  pub goes-on : (why : StopCause) (t u : ℕ) → lv (phase.Stopping why u) ≤ lv (phase.Stopping why t)
  pub stopped : (why v : StopCause) (left : Leftover) (t : ℕ) → lv (phase.Over (command_end.Stopped why left)) ≤ lv (phase.Stopping v t)
  pub gone : (b : CommandPhase) → lv phase.Gone ≤ lv b
  pub lost : (b : CommandPhase) → lv phase.Lost ≤ lv b
  pub owed : (b : CommandPhase) → lv phase.Owed ≤ lv b

module _ (lv : CommandPhase → ℕ) (h : Weight lv) where
  -- the row that follows is of the same process, and weighs no more
  abbrev pub Falls : CommandRow → CommandRow → Type 0
  Falls old new = (new.process ≡ old.process) × (lv new.phase ≤ lv old.phase)

  stays : (r : CommandRow) → Falls r r
  stays r = (refl, omega arith)

  at-phase : (r : CommandRow) (q b : CommandPhase) → r.phase ≡ q → lv b ≤ lv q → lv b ≤ lv r.phase
  at-phase r q b e g = subst (λ p. lv b ≤ lv p) (sym e) g

  falls-interrupted : (p : CommandPhase) (now : ℕ) (r : CommandRow) → r.phase ≡ p → Falls r (interrupted_in p now r).0
  falls-interrupted phase.Runs now r e = (refl, at-phase r phase.Runs (phase.Stopping cause.Interrupted 0) e (h.runs (phase.Stopping cause.Interrupted 0)))
  falls-interrupted (phase.Over (command_end.Code c)) now r e = (refl, at-phase r (phase.Over (command_end.Code c)) (phase.Stopping cause.Interrupted 0) e (h.code c cause.Interrupted 0))
  falls-interrupted (phase.Over (command_end.Held c)) now r e = (refl, at-phase r (phase.Over (command_end.Held c)) (phase.Stopping cause.Interrupted 0) e (h.held c cause.Interrupted 0))
  falls-interrupted p now r e = stays r

  falls-memory : (p : CommandPhase) (now : ℕ) (r : CommandRow) → r.phase ≡ p → Falls r (without_memory_in p now r).0
  falls-memory phase.Runs now r e = both (λ (x : CommandRow × Effect). Falls r x.0) (are_over r.pipes) _ _ (stays r) (refl, at-phase r phase.Runs (phase.Stopping cause.NoMemory 0) e (h.runs (phase.Stopping cause.NoMemory 0)))
  falls-memory p now r e = stays r

  falls-glanced : (now : ℕ) (code : Option ℤ) (r : CommandRow) → r.phase ≡ phase.Runs → Falls r (glanced now code r)
  falls-glanced now code r e = (refl, both (λ q. lv q ≤ lv r.phase) (are_held (held_after now r) r.pipes) _ _ (at-phase r phase.Runs _ e (h.runs _)) (at-phase r phase.Runs _ e (h.runs _)))

  falls-running : (now : ℕ) (c : ChildState) (r : CommandRow) → r.phase ≡ phase.Runs → Falls r (running_looked now c r)
  falls-running now child.Runs r e = both (Falls r) (are_over r.pipes) _ _ (refl, omega arith) (refl, omega arith)
  falls-running now (child.Ended code) r e = both (Falls r) (are_over r.pipes) _ _ (refl, at-phase r phase.Runs _ e (h.runs _)) (falls-glanced now code r e)

  falls-stop : (o : Option Leftover) (why : StopCause) (t ms now : ℕ) (r : CommandRow) → r.phase ≡ phase.Stopping why t → Falls r (stop_looked_to o why ms now r)
  falls-stop (Some left) why t ms now r e = (refl, at-phase r (phase.Stopping why t) _ e (h.stopped why why left t))
  falls-stop None why t ms now r e = (refl, at-phase r (phase.Stopping why t) _ e (h.goes-on why t ms))

  falls-owed : (c : ChildState) (s : Sweep) (now : ℕ) (r : CommandRow) → Falls r (owed_looked_to c s now r)
  falls-owed child.Runs s now r = (refl, omega arith)
  falls-owed (child.Ended code) sweep.Going now r = (refl, omega arith)
  falls-owed (child.Ended code) s now r = (refl, h.gone r.phase)

  falls-looked : (p : CommandPhase) (now : ℕ) (seen : ProcessLook) (r : CommandRow) → r.phase ≡ p → Falls r (looked_in p now seen r)
  falls-looked phase.Runs now seen r e = falls-running now seen.child r e
  falls-looked (phase.Stopping why t) now seen r e = falls-stop (stop_end (swept seen) (stopped_ms t (now - r.looked_ms)) ((r.texts == 0) && are_over r.pipes)) why t (stopped_ms t (now - r.looked_ms)) now r e
  falls-looked phase.Owed now seen r e = falls-owed seen.child seen.sweep now r
  falls-looked p now seen r e = stays r

  falls-lost : (r : CommandRow) → Falls r (lost r)
  falls-lost r = both (Falls r) (is_told r) _ _ (refl, h.lost r.phase) (stays r)

  pub falls-cell : (now : ℕ) (r : CommandRow) (i : ProcessInput) → Falls r (cell now r i).0
  falls-cell now r told.Text = both (λ (x : CommandRow × Effect). Falls r x.0) (is_heard r.phase r.pipes) _ _ (refl, omega arith) (stays r)
  falls-cell now r (told.PipeEnded end) = both (Falls r) (is_heard r.phase r.pipes) _ _ (refl, omega arith) (stays r)
  falls-cell now r told.NoMemory = falls-memory r.phase now r refl
  falls-cell now r told.Interrupted = falls-interrupted r.phase now r refl
  falls-cell now r (told.Looked seen) = falls-looked r.phase now seen r refl
  falls-cell now r told.NotStarted = (refl, h.gone r.phase)
  falls-cell now r told.Unread = falls-lost r

  module _ (p : ℕ) where
    abbrev pub weight : CommandRow → ℕ
    weight r = cond (r.process == p) (lv r.phase) 0

    abbrev pub weigh : List CommandRow → ℕ
    weigh rows = sum_by weight rows

    under : (b : Bool) (x y : ℕ) → x ≤ y → cond b x 0 ≤ cond b y 0
    under true x y g = g
    under false x y g = omega arith

    falls-weight : (old new : CommandRow) → Falls old new → weight new ≤ weight old
    falls-weight old new f = subst (λ k. cond (k == p) (lv new.phase) 0 ≤ weight old) (sym f.0) (under (old.process == p) (lv new.phase) (lv old.phase) f.1)

    -- the row at a place falls by so much
    pub weigh-set : (rows : List CommandRow) (at : ℕ) (r new : CommandRow) → slice_get rows at ≡ Some r → weigh (slice_set rows at new) + weight r ≡ weigh rows + weight new
    weigh-set rows at r new e = ap (λ x. weigh (slice_set rows at new) + weight x) (sym (get_or_from_slice_get rows at r r e)) ∙ sum_by-set weight rows at new r (slice_get_within rows at r e)

    pub weigh-remove : (rows : List CommandRow) (at : ℕ) (r : CommandRow) → slice_get rows at ≡ Some r → weigh (remove rows at) + weight r ≡ weigh rows
    weigh-remove rows at r e = ap (λ x. weigh (remove rows at) + weight x) (sym (get_or_from_slice_get rows at r r e)) ∙ sum_by-remove weight rows at r (slice_get_within rows at r e)

    weigh-lost : (rows : List CommandRow) → weigh (map lost rows) ≤ weigh rows
    weigh-lost [] = omega arith
    weigh-lost (r ∷ rs) =
        let one : weight (lost r) ≤ weight r = falls-weight r (lost r) (falls-lost r) in
        let more : weigh (map lost rs) ≤ weigh rs = weigh-lost rs in
        let a : weigh (lost r ∷ map lost rs) ≡ weight (lost r) + weigh (map lost rs) = sum_by-cons weight (lost r) (map lost rs) in
        let b : weigh (r ∷ rs) ≡ weight r + weigh rs = sum_by-cons weight r rs in
        omega (arith, one, more, a, b)

    -- what may still be told of a process: of its row, or because it wasn't started yet
    abbrev pub may : QueuesView → ℕ
    may q = weigh q.rows + cond (nat_lt q.started p) 1 0

    admits-one : (s x : ℕ) → x ≤ 1 → cond (s + 1 == p) x 0 + cond (nat_lt (s + 1) p) 1 0 ≤ cond (nat_lt s p) 1 0
    admits-one s x g = go (s + 1 == p) (nat_lt (s + 1) p) (nat_lt s p) refl refl refl
      where
        go : (a b c : Bool) → (s + 1 == p) ≡ a → nat_lt (s + 1) p ≡ b → nat_lt s p ≡ c → cond a x 0 + cond b 1 0 ≤ cond c 1 0
        go true true c ea eb ec = absurd (grind (arith, nat_tests))
        go true false true ea eb ec = omega (arith, g)
        go true false false ea eb ec = absurd (grind (arith, nat_tests))
        go false true true ea eb ec = omega arith
        go false true false ea eb ec = absurd (grind (arith, nat_tests))
        go false false c ea eb ec = omega arith

    pub may-admitted : (q : QueuesView) (k now : ℕ) → may (admitted k now q) ≤ may q
    may-admitted q k now =
        let back : weigh (q.rows ++ fresh_row (q.started + 1) k (max q.now_ms now) ∷ []) ≡ weigh q.rows + weight (fresh_row (q.started + 1) k (max q.now_ms now)) = sum_by_push weight q.rows (fresh_row (q.started + 1) k (max q.now_ms now)) in
        omega (arith, back, admits-one q.started (lv phase.Runs) h.small)

    -- What an effect costs: no more than the row weighs whose end it tells.
    module _ (cost : Effect → ℕ) (free : IsFree cost) (ct : (k j : ℕ) → cost (effect.TellText k j) ≡ 0) (ce : (r : CommandRow) → cost (end_effect r) ≤ weight r) where
      abbrev Paid : List CommandRow → Acted → Type 0
      Paid rows a = cost a.1 + weigh a.0 ≤ weigh rows

      paid-idle : (rows : List CommandRow) → Paid rows (rows, effect.Nothing)
      paid-idle rows = omega (arith, free.nothing)

      paid-look : (rows : List CommandRow) (k : ℕ) → Paid rows (rows, effect.Look k)
      paid-look rows k = omega (arith, free.look k)

      paid-cell : (now : ℕ) (i : ProcessInput) (rows : List CommandRow) (at : ℕ) (r : CommandRow) → slice_get rows at ≡ Some r → Paid rows (slice_set rows at (cell now r i).0, (cell now r i).1)
      paid-cell now i rows at r e = omega (arith, weigh-set rows at r (cell now r i).0 e, falls-weight r (cell now r i).0 (falls-cell now r i), free-cell cost free now r i)

      paid-kill : (now : ℕ) (rows : List CommandRow) (at : ℕ) (r : CommandRow) → slice_get rows at ≡ Some r → Paid rows (slice_set rows at (killed now r), effect.Kill r.process)
      paid-kill now rows at r e = omega (arith, weigh-set rows at r (killed now r) e, falls-weight r (killed now r) (refl, h.owed r.phase), free.kill r.process)

      paid-forget : (rows : List CommandRow) (at : ℕ) (r : CommandRow) → slice_get rows at ≡ Some r → position is_gone rows ≡ Some at → Paid rows (remove rows at, effect.Forget r.process)
      paid-forget rows at r e first = omega (arith, weigh-remove rows at r e, free.forget r.process)

      paid-end : (rows : List CommandRow) (at : ℕ) (r : CommandRow) → slice_get rows at ≡ Some r → position has_end rows ≡ Some at → Paid rows (remove rows at, end_effect r)
      paid-end rows at r e first = omega (arith, weigh-remove rows at r e, ce r)

      paid-text : (rows : List CommandRow) (at : ℕ) (r : CommandRow) → slice_get rows at ≡ Some r → position has_text rows ≡ Some at → Paid rows (remove rows at ++ record r { texts = r.texts - 1 } ∷ [], effect.TellText r.process r.pipes.command)
      paid-text rows at r e first =
          let back : weigh (remove rows at ++ record r { texts = r.texts - 1 } ∷ []) ≡ weigh (remove rows at) + weight r = sum_by_push weight (remove rows at) (record r { texts = r.texts - 1 }) in
          omega (arith, back, weigh-remove rows at r e, ct r.process r.pipes.command)

      paid-walk : (q : QueuesView) (now : ℕ) (i : Input) → OnRows Paid q now i
      paid-walk = walk Paid paid-idle paid-look paid-cell paid-kill paid-forget paid-end paid-text

      pub paid-step : (q : QueuesView) (now : ℕ) (i : Input) → cost (stepped q now i).1 + may (stepped q now i).0 ≤ may q
      paid-step q now (input.Process k i) = omega (arith, paid-walk q now (input.Process k i))
      paid-step q now (input.Interrupt k) = omega (arith, paid-walk q now (input.Interrupt k))
      paid-step q now input.SessionLost = omega (arith, free.nothing, weigh-lost q.rows)
      paid-step q now input.Ends = let none : cost (cond q.is_ending effect.Nothing effect.SweepAll) ≡ 0 = both (λ x. cost x ≡ 0) q.is_ending _ _ free.nothing free.sweep in omega (arith, none)
      paid-step q now input.Tick = omega (arith, paid-walk q now input.Tick)
      paid-step q now (input.Turn may_say) = omega (arith, paid-walk q now (input.Turn may_say))

      pub paid-moved : (q : QueuesView) (e : Event) → cost (moved q e).1 + may (moved q e).0 ≤ may q
      paid-moved q (admits k now) = omega (arith, free.nothing, may-admitted q k now)
      paid-moved q (steps now i) = paid-step q now i

      pub paid-run : (q : QueuesView) (es : List Event) → total cost (effects q es) + may (after q es) ≤ may q
      paid-run q [] = omega arith
      paid-run q (e ∷ es) = omega (arith, paid-moved q e, paid-run (moved q e).0 es)

    -- What an effect shows of a process that has a row: no more than that weighs.
    module _ (shows : Effect → ℕ) (free : IsFree shows) (st : (r : CommandRow) → has_text r ≡ true → shows (effect.TellText r.process r.pipes.command) ≤ weight r) (se : (r : CommandRow) → shows (end_effect r) ≤ weight r) where
      abbrev Shown : List CommandRow → Acted → Type 0
      Shown rows a = shows a.1 ≤ weigh rows

      shown-idle : (rows : List CommandRow) → Shown rows (rows, effect.Nothing)
      shown-idle rows = omega (arith, free.nothing)

      shown-look : (rows : List CommandRow) (k : ℕ) → Shown rows (rows, effect.Look k)
      shown-look rows k = omega (arith, free.look k)

      shown-cell : (now : ℕ) (i : ProcessInput) (rows : List CommandRow) (at : ℕ) (r : CommandRow) → slice_get rows at ≡ Some r → Shown rows (slice_set rows at (cell now r i).0, (cell now r i).1)
      shown-cell now i rows at r e = omega (arith, free-cell shows free now r i)

      shown-kill : (now : ℕ) (rows : List CommandRow) (at : ℕ) (r : CommandRow) → slice_get rows at ≡ Some r → Shown rows (slice_set rows at (killed now r), effect.Kill r.process)
      shown-kill now rows at r e = omega (arith, free.kill r.process)

      shown-forget : (rows : List CommandRow) (at : ℕ) (r : CommandRow) → slice_get rows at ≡ Some r → position is_gone rows ≡ Some at → Shown rows (remove rows at, effect.Forget r.process)
      shown-forget rows at r e first = omega (arith, free.forget r.process)

      shown-end : (rows : List CommandRow) (at : ℕ) (r : CommandRow) → slice_get rows at ≡ Some r → position has_end rows ≡ Some at → Shown rows (remove rows at, end_effect r)
      shown-end rows at r e first = omega (arith, weigh-remove rows at r e, se r)

      shown-text : (rows : List CommandRow) (at : ℕ) (r : CommandRow) → slice_get rows at ≡ Some r → position has_text rows ≡ Some at → Shown rows (remove rows at ++ record r { texts = r.texts - 1 } ∷ [], effect.TellText r.process r.pipes.command)
      shown-text rows at r e first =
          let has : has_text r ≡ true = ap has_text (sym (get_or_from_slice_get rows at r r e)) ∙ (position-Some has_text rows at r first).1 in
          omega (arith, weigh-remove rows at r e, st r has)

      shown-walk : (q : QueuesView) (now : ℕ) (i : Input) → OnRows Shown q now i
      shown-walk = walk Shown shown-idle shown-look shown-cell shown-kill shown-forget shown-end shown-text

      pub shown-moved : (q : QueuesView) (e : Event) → shows (moved q e).1 ≤ may q
      shown-moved q (admits k now) = omega (arith, free.nothing)
      shown-moved q (steps now (input.Process k i)) = omega (arith, shown-walk q now (input.Process k i))
      shown-moved q (steps now (input.Interrupt k)) = omega (arith, shown-walk q now (input.Interrupt k))
      shown-moved q (steps now input.SessionLost) = omega (arith, free.nothing)
      shown-moved q (steps now input.Ends) = let none : shows (cond q.is_ending effect.Nothing effect.SweepAll) ≡ 0 = both (λ x. shows x ≡ 0) q.is_ending _ _ free.nothing free.sweep in omega (arith, none)
      shown-moved q (steps now input.Tick) = omega (arith, shown-walk q now input.Tick)
      shown-moved q (steps now (input.Turn may_say)) = omega (arith, shown-walk q now (input.Turn may_say))
