use Rattle.std.proofs.Common.{sym, subst, OnOk}
use Rattle.bm_commands.specs.Queues.{IsOwn}
use Rattle.bm_commands.specs.declared.values.Input.TheVariants.{Turn}
use Rattle.bm_commands.proofs.Counted.{own_step}
use Rattle.bm_worker_threads.specs.Turns.{KeepsBy, TellsBy}
use Rattle.bm_worker_threads.proofs.processes.Processes.turn.Goals as goal

-- what the machine tells of an exit code is of the command whose pipes gave it
pub tell-requires : goal.tell-requires
tell-requires g c = subst IsOwn (sym c.step-effect.ensures.effect) (own_step c.args.self.now.queues c.args.now_ms (Turn c.args.may_say))

-- it is told what the machine tells, and all else is kept
pub returns-clause-told : goal.returns-clause-told
returns-clause-told g c = subst (λ e. OnOk c.tell.result (TellsBy e c.args.self.now.parts.items c.args.outbox.now c.tell.new.outbox)) c.step-effect.ensures.effect c.tell.ensures.told

pub returns-clause-kept : goal.returns-clause-kept
returns-clause-kept g c = subst (λ e. KeepsBy e c.args.self.now.parts.items c.tell.new.self.parts.items) c.step-effect.ensures.effect c.tell.ensures.kept
