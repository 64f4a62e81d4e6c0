use Rattle.bm_wired.proofs.CutMain.{cuts_are_schedules, cuts_are_logged, all_is_logged}
use Rattle.bm_wired.proofs.laws.cuts_are_logged.Goals as goal

pub returns-clause-schedule : goal.returns-clause-schedule
returns-clause-schedule c = cuts_are_schedules

pub returns-clause-prefix : goal.returns-clause-prefix
returns-clause-prefix c = cuts_are_logged

pub returns-clause-whole : goal.returns-clause-whole
returns-clause-whole c = all_is_logged
