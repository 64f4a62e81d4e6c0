use Rattle.std.proofs.Common.{ap, ◌∙◌}
use Rattle.bm_lane.proofs.Relays.{merges, forks, totals}
use Rattle.bm_lane.proofs.reader_end.ReaderEnd.join.Goals as goal

pub absorb-requires-clause-rule : goal.absorb-requires-clause-rule
absorb-requires-clause-rule g c = merges _ _ _ _ (ap (λ v. v.puts) c.self.invariant.2) (ap (λ v. v.takes) c.writer.invariant.2)

pub another-other-requires-clause-rule : goal.another-other-requires-clause-rule
another-other-requires-clause-rule g c =
    let now = c.is_empty_as.ensures.queue.1 ∙ c.absorb.ensures.rule in
    forks _ _ (ap (λ v. v.puts) now) (ap (λ v. v.takes) now)

pub is_empty_as-requires-clause-rule : goal.is_empty_as-requires-clause-rule
is_empty_as-requires-clause-rule g c = totals _ _ (ap (λ v. v.puts) c.absorb.ensures.rule) (ap (λ v. v.takes) c.absorb.ensures.rule)
