-- Laws of interleavings.
use Rattle.std.specs.Prelude.{◌≡◌, ℕ, ◌≤◌, true, List}
use Rattle.bm_lines.specs.Names.{Name}
use mathlib.Core.List.{IsPrefix}
use Rattle.bm_session.specs.Trace.{Trace, has_log, log, visible, productive}
use Rattle.bm_session.specs.declared.refusal.Refusal.TheVariants.{Mem}
use Rattle.bm_world.specs.declared.answer.Answer.TheVariants.{Refused}
use Rattle.bm_world.specs.declared.step.Step.{Step}
use Rattle.bm_world.specs.World.{World, start, stepped, after_steps}

-- what viewers see of a log only grows
abbrev pub VisibleLogsGrow : Type 0
VisibleLogsGrow =
    (t : Trace) (k : ℕ) (name : Name) (d d' : ℕ) → d ≤ d' → d' ≤ productive t
    → IsPrefix (log (visible t d) k name) (log (visible t d') k name)

-- once all is drained they see all of it
abbrev pub DrainedLogsAreWhole : Type 0
DrainedLogsAreWhole =
    (t : Trace) (k : ℕ) (name : Name) → log (visible t (productive t)) k name ≡ log t k name

-- a lane some steps later, and a log under a name
pub record IsLater (v w : World) (k : ℕ) (name : Name) : Type 0 where
  pub taken : IsPrefix v.trace w.trace
  pub shown : v.shown ≤ w.shown
  pub few : w.shown ≤ productive w.trace
  pub seen : IsPrefix (log (visible v.trace v.shown) k name) (log (visible w.trace w.shown) k name)
  pub has_log : has_log (visible v.trace v.shown) k name ≡ true
      → has_log (visible w.trace w.shown) k name ≡ true
  pub true_log : IsPrefix (log (visible w.trace w.shown) k name) (log w.trace k name)

-- whatever steps follow, a log that viewers see stays there and goes on, and is a prefix of the
-- true one
abbrev pub LooksNeverShrink : Type 0
LooksNeverShrink =
    (c : ℕ) (first more : List Step) (k : ℕ) (name : Name)
    → IsLater (after_steps (start c) first) (after_steps (after_steps (start c) first) more) k name

-- an event is never refused for want of memory
abbrev pub RefusalsAreNotMemory : Type 0
RefusalsAreNotMemory = (w : World) (s : Step) → ¬ ((stepped w s).0 ≡ Refused Mem)
