use Rattle.std.proofs.Common.{◌∙◌, sym, ap, Some}
use Rattle.bm_replay.proofs.Words.{is-text, no-text}
use Rattle.bm_replay.proofs.script.text_of.Goals as goal

pub returns-in-Ok : goal.returns-in-Ok
returns-in-Ok c = ap (λ t. Some t) c.in-Ok.ensures.cases.0 ∙ sym (is-text _ c.in-Ok.ensures.cases.1)

pub returns-in-Err : goal.returns-in-Err
returns-in-Err c = sym (no-text _ c.in-Err.ensures.cases.0)
