use Rattle.std.proofs.Common.{◌≡◌, ◌++◌, ◌∷◌, [], true, not, ◌==◌, filter, sym, ap, ◌∙◌}
use Rattle.std.proofs.lemmas.List.{append-nil}
use Rattle.std.specs.List.{list_any}
use Rattle.bm_work.specs.declared.sent.Sent.{Sent}
use Rattle.bm_work.specs.Core.{Core, awaits}
use Rattle.bm_work.proofs.Cores.{answered-is_kept}
use Rattle.bm_work.proofs.worker.Worker.free.Goals as goal

pub invariant_of-self : goal.invariant_of-self
invariant_of-self c =
    let w = c.self.inside in
    let n = c.args.seq in
    let core : Core = record { running = w.running.items; reports = w.history.reports; answered = w.history.answered; answers = w.answers } in
    let awaited : awaits core n ≡ true =
    ap (list_any (λ (s : Sent). s.seq == n)) (sym (c.as_slice.ensures.value ∙ c.self.invariant.requests)) ∙ (sym c.contains.ensures ∙ c.if-not-contains.false)
    in
    let reports : c.with-self-inside.result.reports ≡ core.reports = c.with-self-inside.ensures.0 ∙ append-nil core.reports in
    let answered : c.with-self-inside.result.answered ≡ core.answered ++ n ∷ [] = c.with-self-inside.ensures.1 in
    let requests : c.take_out_request.new.requests.items ≡ filter (λ (s : Sent). not (s.seq == n)) w.unanswered.items = c.take_out_request.ensures in
    rw (reports, answered, requests) (answered-is_kept core n w.next w.unanswered.items c.self.invariant awaited)
