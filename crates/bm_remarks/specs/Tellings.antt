-- Which remark is told of what happens to builds and steps, and of what a configuration has.
use Rattle.std.specs.Prelude.{ℕ, ◌+◌, ◌-◌, ◌^◌, List, [], Option, Some, None, codes, fold, length, min, slice_get}
use Rattle.bm_board.specs.declared.plan.Build.{Build}
use Rattle.bm_config.specs.declared.config.WorkerConfig.{WorkerConfig}
use Rattle.bm_config.specs.declared.keys.Key.{Key}
use Rattle.bm_config.specs.Keys.{name_of}
use Rattle.bm_master.specs.declared.values.MasterRemark.{MasterRemark}
use Rattle.bm_master.specs.declared.values.MasterRemark.TheVariants as say
use Rattle.bm_operator.specs.declared.step_at.StepAt.{StepAt}
use Rattle.bm_operator.specs.Remark.{build_ended, build_missing, build_started, build_unstarted, build_waits, misspelt_key, program_ended, program_failed, program_started, unknown_key}
use Rattle.bm_operator.specs.StepEvents.{event_told}
use Rattle.bm_operator.specs.Told.{Told}
use Rattle.bm_remarks.specs.declared.reports.ReportedStep.{ReportedStep}

abbrev pub name_in : Option WorkerConfig → List ℕ
name_in (Some worker) = worker.name
name_in None = []

-- the name of the worker at this place, empty where there is none
abbrev pub name_at : List WorkerConfig → ℕ → List ℕ
name_at workers at = name_in (slice_get workers at)

abbrev pub lane_in : Option Build → ℕ
lane_in (Some build) = build.worker
lane_in None = 0

-- the place of the worker of this build
abbrev pub lane_at : List Build → ℕ → ℕ
lane_at builds number = lane_in (slice_get builds number)

-- what is told of what the master's machine says, by the workers' names
abbrev pub master_told : List WorkerConfig → MasterRemark → Told
master_told workers (say.BuildStarted build at) = build_started build (name_at workers at)
master_told workers (say.BuildUnstarted build) = build_unstarted build
master_told workers (say.BuildWaits build at) = build_waits build (name_at workers at)
master_told workers (say.BuildEnded build result) = build_ended build result
master_told workers (say.BuildMissing build) = build_missing build
master_told workers (say.ProgramStarted at) = program_started (name_at workers at)
master_told workers (say.ProgramFailed at why) = program_failed (name_at workers at) why
master_told workers (say.ProgramEnded at) = program_ended (name_at workers at)

-- a text, or this one where it is wanting
abbrev pub text_or : List ℕ → Option (List ℕ) → List ℕ
text_or other (Some text) = text
text_or other None = other

-- what is told of a step of a build, on the lane of its worker
abbrev pub step_told : List WorkerConfig → List Build → ReportedStep → StepAt → Told
step_told workers builds reported step =
    event_told
    reported.build (lane_at builds reported.build) (length workers)
    (name_at workers (lane_at builds reported.build))
    step (text_or (codes "no exit code") reported.said) reported.event

-- how many steps these builds have, up to 2^64-1
abbrev pub steps_in : List Build → ℕ
steps_in builds = fold (λ n build. min (n + length build.steps) (2 ^ 64 - 1)) 0 builds

-- what is told of a key at this place that nobody reads, and of one that is nearly another
abbrev pub key_told : List ℕ → List ℕ → Option Key → Told
key_told place key None = unknown_key place key
key_told place key (Some near) = misspelt_key place key (name_of near)
