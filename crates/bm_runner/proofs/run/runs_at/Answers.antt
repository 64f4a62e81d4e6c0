use Rattle.std.proofs.Common.{[], false, arith}
use Rattle.bm_board.specs.declared.plan.StepPlan.{StepPlan}
use Rattle.bm_runner.proofs.Places.{next_here, none_here}
use Rattle.bm_runner.proofs.run.runs_at.Goals as goal

-- a step to read past the end of a list
no_step : StepPlan
no_step = record { name = []; argv = []; halt_on_failure = false; flunk_on_failure = false; always_run = false; max_bytes = 0; timeout_ticks = 0; silent_ticks = 0 }

pub returns-in-Step : goal.returns-in-Step
returns-in-Step c = next_here c.args.steps.now c.args.outcomes.now c.args.place c.in-Step.next no_step (omega arith) (omega arith) c.in-Step.ensures

pub returns-in-Ended : goal.returns-in-Ended
returns-in-Ended c = none_here c.args.steps.now c.args.outcomes.now c.args.place c.in-Ended.field-0 no_step (omega arith) (omega arith) c.in-Ended.ensures
