use Rattle.std.proofs.Common.{◌≡◌, [], ◌∷◌, ◌++◌, sym, ap, ◌∙◌}
use Rattle.std.proofs.lemmas.List.{append-nil}
use Rattle.bm_work.specs.Stream.{Report, text, sent, stream_from}
use Rattle.bm_work.specs.Core.{Core, refusal, next_number}
use Rattle.bm_work.proofs.Cores.{with_reports-is_kept}
use Rattle.bm_work.proofs.worker.Worker.say.Goals as goal

pub invariant_of-self-2 : goal.invariant_of-self-2
invariant_of-self-2 c =
    let w = c.self.inside in
    let core : Core = record { running = w.running.items; reports = w.history.reports; answered = w.history.answered; answers = w.answers } in
    let said : Report = text c.args.command c.args.letter c.args.text.now in
    let accepted = ap (λ (o : Core). refusal o c.args.command 1) c.self.view_is ∙ sym c.in_default.ensures in
    let reports : c.with-self-inside.result.reports ≡ core.reports ++ said ∷ [] = c.with-self-inside.ensures.0 in
    let answered : c.with-self-inside.result.answered ≡ core.answered = c.with-self-inside.ensures.1 ∙ append-nil core.answered in
    let same = c.in_ok-copy.ensures ∙ (c.in_ok-sent.ensures ∙ ap (λ n. sent n said) c.self.invariant.number) in
    let requests : c.push.new.self.items ≡ w.unanswered.items ++ stream_from (next_number core) (said ∷ []) =
    c.in_ok-push.ensures.items ∙ ap (λ s. w.unanswered.items ++ s ∷ []) same
    in
    rw (reports, answered, requests) (with_reports-is_kept core c.args.command w.next w.unanswered.items (said ∷ []) c.self.invariant accepted)
