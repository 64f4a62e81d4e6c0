use Rattle.bm_wired.proofs.Meant.{starts_are_read, runs_are_meant, starts_are_run, new_workers_run, empty_starts_are_refused, interrupts_are_read, asks_are_read, answers_are_read, verdicts_are_read}
use Rattle.bm_wired.proofs.Reported.{reports_are_read, responses_are_read}
use Rattle.bm_wired.proofs.laws.messages_are_read_back.Goals as goal

pub returns-clause-start : goal.returns-clause-start
returns-clause-start c = starts_are_read

pub returns-clause-runs : goal.returns-clause-runs
returns-clause-runs c = runs_are_meant

pub returns-clause-first : goal.returns-clause-first
returns-clause-first c = starts_are_run

pub returns-clause-new : goal.returns-clause-new
returns-clause-new c = new_workers_run

pub returns-clause-empty : goal.returns-clause-empty
returns-clause-empty c = empty_starts_are_refused

pub returns-clause-interrupt : goal.returns-clause-interrupt
returns-clause-interrupt c = interrupts_are_read

pub returns-clause-ask : goal.returns-clause-ask
returns-clause-ask c = asks_are_read

pub returns-clause-answer : goal.returns-clause-answer
returns-clause-answer c = answers_are_read

pub returns-clause-verdict : goal.returns-clause-verdict
returns-clause-verdict c = verdicts_are_read

pub returns-clause-report : goal.returns-clause-report
returns-clause-report c = reports_are_read

pub returns-clause-response : goal.returns-clause-response
returns-clause-response c = responses_are_read
