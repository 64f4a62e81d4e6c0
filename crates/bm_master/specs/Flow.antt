-- What a master does next, and how long it waits for its next event.
use Rattle.std.specs.Prelude.{Bool, true, false, ◌&&◌, not, if◌then◌else◌}
use Rattle.bm_master.specs.declared.master_flow.FlowInput.{FlowInput}
use Rattle.bm_master.specs.declared.master_flow.FlowInput.TheVariants.{Changed, InputEnded, Started}
use Rattle.bm_master.specs.declared.master_flow.FlowStep.{FlowStep}
use Rattle.bm_master.specs.declared.master_flow.FlowStep.TheVariants.{Start, Report, Wait, Leave}
use Rattle.bm_master.specs.declared.master_flow.NextWait.{NextWait}
use Rattle.bm_master.specs.declared.master_flow.NextWait.TheVariants as wait

-- Whether builds may be started that weren't before, and whether standard input has ended. Whether
-- each build has its result, and whether all results were written.
pub record FlowView : Type 0 where
  pub stale : Bool
  pub closed : Bool
  pub over : Bool
  pub reported : Bool

abbrev pub begun_flow : FlowView
begun_flow = record { stale = true; closed = false; over = false; reported = false }

abbrev pub flow_after : FlowInput → FlowView → FlowView
flow_after Changed f = record f { stale = true }
flow_after InputEnded f = record f { closed = true }
flow_after (Started is_over) f = record f { over = is_over }

-- What can be started is, before anything else. Results are written once, when all are there. The
-- master leaves once they are written and the input has ended.
abbrev pub step_of : FlowView → FlowStep
step_of f =
    if f.stale then Start
    else (if f.over && not f.reported then Report
    else (if f.closed && f.reported then Leave else Wait))

-- what is done is no more to be done
abbrev pub taken : FlowStep → FlowView → FlowView
taken Start f = record f { stale = false }
taken Report f = record f { reported = true }
taken step f = f

-- a tick while ticks count, a second while something waits for it; else without an end
abbrev pub next_wait : Bool → Bool → NextWait
next_wait true counted = wait.Tick
next_wait false true = wait.Second
next_wait false false = wait.Event
