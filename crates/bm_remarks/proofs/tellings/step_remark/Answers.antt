-- What is told is that of the event, by the texts and numbers that the calls before it gave.
use Rattle.std.proofs.Common.{◌∙◌, ap, length}
use Rattle.std.specs.Prelude.{codes}
use Rattle.bm_operator.specs.StepEvents.{event_told}
use Rattle.bm_remarks.specs.Tellings.{name_at, text_or}
use Rattle.bm_remarks.proofs.tellings.step_remark.Goals as goal

pub returns : goal.returns
returns c =
    let r = c.args.reported.now in
    let n = length c.args.workers.now in
    let said = text_or (codes "no exit code") r.said in
    c.remark.ensures
    ∙ ap (λ s. event_told r.build c.lane_at-lane.result n c.name_at-worker.result.now c.args.step s r.event) c.said_in-said.ensures
    ∙ ap (λ w. event_told r.build c.lane_at-lane.result n w c.args.step said r.event) c.name_at-worker.ensures
    ∙ ap (λ l. event_told r.build l n (name_at c.args.workers.now l) c.args.step said r.event) c.lane_at-lane.ensures
