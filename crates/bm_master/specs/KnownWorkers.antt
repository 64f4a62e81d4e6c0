-- A worker as the master's machine keeps it, with what is still to be done about it.
use Rattle.std.specs.Prelude.{Bool, true, false, ◌||◌, if◌then◌else◌}
use Rattle.bm_latent.specs.declared.deadline.EndAct.{EndAct}
use Rattle.bm_latent.specs.declared.deadline.EndAct.TheVariants as end_act
use Rattle.bm_latent.specs.declared.worker_event.ProcessAction.{ProcessAction}
use Rattle.bm_latent.specs.declared.worker_event.ProcessAction.TheVariants as process_act
use Rattle.bm_latent.specs.declared.worker_input.WorkerEffect.{WorkerEffect}
use Rattle.bm_latent.specs.WorkerMachine.{MachineView}
use Rattle.bm_operator.specs.WaitNotice.{Notice}
use Rattle.bm_master.specs.declared.known_worker.OwedActs.{OwedActs}
use Rattle.bm_master.specs.declared.known_worker.WorkerAct.{WorkerAct}
use Rattle.bm_master.specs.declared.known_worker.WorkerAct.TheVariants as act

-- its machine, when it is told that a build waits for it, and what is still to be done about it
pub record KnownView : Type 0 where
  pub machine : MachineView
  pub waits : Notice
  pub owed : OwedActs

abbrev pub nothing_owed : OwedActs
nothing_owed = record { ends = end_act.None; gives_up = false; process = process_act.None }

-- a later order comes in the place of an earlier one of its kind, and none is forgotten
abbrev pub later_end : EndAct → EndAct → EndAct
later_end before end_act.None = before
later_end before later = later

abbrev pub later_process : ProcessAction → ProcessAction → ProcessAction
later_process before process_act.None = before
later_process before later = later

abbrev pub owed_with : OwedActs → WorkerEffect → OwedActs
owed_with o e =
    record {
      ends = later_end o.ends e.ends;
      gives_up = o.gives_up || e.action.gives_up;
      process = later_process o.process e.action.process;
    }

-- its program is ended first, then builds are given up, and then it is started or told to shut down
abbrev pub process_of : ProcessAction → WorkerAct
process_of process_act.None = act.Nothing
process_of process_act.Start = act.Start
process_of process_act.Shutdown = act.ShutDown

abbrev pub first_with : EndAct → OwedActs → WorkerAct
first_with end_act.None o = if o.gives_up then act.GiveUp else process_of o.process
first_with ends o = act.End ends

abbrev pub first_of : OwedActs → WorkerAct
first_of o = first_with o.ends o

abbrev pub without_in : EndAct → OwedActs → OwedActs
without_in end_act.None o = if o.gives_up then record o { gives_up = false } else nothing_owed
without_in ends o = record o { ends = end_act.None }

abbrev pub without_first : OwedActs → OwedActs
without_first o = without_in o.ends o

-- something is to be done about it
abbrev pub is_act : WorkerAct → Bool
is_act act.Nothing = false
is_act a = true

abbrev pub owes : OwedActs → Bool
owes o = is_act (first_of o)
