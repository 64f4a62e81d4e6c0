use Rattle.std.proofs.Common.{◌≡◌, ◌+◌, ◌==◌, not, filter, ◌++◌, length, None, sym, ap, ◌∙◌}
use Rattle.std.proofs.lemmas.List.{append-nil}
use Rattle.bm_work.specs.Stream.{stream_from}
use Rattle.bm_work.specs.Reports.{reports_of}
use Rattle.bm_work.specs.Core.{Core, refusal, next_number, with_reports}
use Rattle.bm_work.proofs.Cores.{with_reports-is_kept, without_command-is_kept}
use Rattle.bm_work.proofs.worker.Worker.finish.Goals as goal

pub invariant_of-self-2 : goal.invariant_of-self-2
invariant_of-self-2 c =
    let w = c.self.inside in
    let k = c.args.command in
    let core : Core = record { running = w.running.items; reports = w.history.reports; answered = w.history.answered; answers = w.answers } in
    let ends = reports_of k c.args.finish in
    let places : c.places_of-places.result ≡ length ends = c.places_of-places.ensures.places k in
    let accepted : refusal core k (length ends) ≡ None =
    ap (λ n. refusal core k n) (sym places)
    ∙ (ap (λ (o : Core). refusal o k c.places_of-places.result) c.self.view_is ∙ sym c.in_default.ensures)
    in
    let running : c.take_out.new.commands.items ≡ filter (λ j. not (j == k)) core.running = c.take_out.ensures in
    let reports : c.with-history.result.reports ≡ core.reports ++ ends = c.with-history.ensures.0 in
    let answered : c.with-history.result.answered ≡ core.answered = c.with-history.ensures.1 ∙ append-nil core.answered in
    let copied = c.in_ok-kept.ensures ∙ (c.as_slice.ensures.value ∙ (c.in_ok-requests.ensures ∙ ap (λ n. stream_from n ends) c.self.invariant.number)) in
    let requests : c.append.new.self.items ≡ w.unanswered.items ++ stream_from (next_number core) ends =
    c.in_ok-append.ensures.items ∙ ap (λ more. w.unanswered.items ++ more) copied
    in
    let kept = with_reports-is_kept core k w.next w.unanswered.items ends c.self.invariant accepted in
    rw (running, reports, answered, places, requests)
    (without_command-is_kept (with_reports ends core) k (w.next + length ends) (w.unanswered.items ++ stream_from (next_number core) ends) kept)
