use Rattle.std.proofs.Common.{◌≡◌, ◌≤◌, length, rules, sym, ap, subst}
use Rattle.std.specs.Prelude.{nat_le}
use Rattle.std.specs.List.Sorted.{IsPartitionPoint, IsPartitionedBy}
use Rattle.std.proofs.Common.{true, false}
use Rattle.std.proofs.lemmas.List.Sorted.{IsPartitionPoint-from_clause, IsPartitionedBy-leb}
use Rattle.bm_session.specs.declared.seen.Seen.{Seen}
use Rattle.bm_session.specs.Ranges.{RangeList, IsPlace}
use Rattle.bm_session.proofs.Merged.{merged-sorted}
use Rattle.bm_session.proofs.Inserted.{place-from}
use Rattle.bm_session.proofs.ranges.Ranges.place.Goals as goal

pub returns : goal.returns
returns c =
    let items = c.self.inside.vec.items in
    let n = c.args.number in
    let ranges = c.as_slice.result.now in
    let sorted = subst (λ ys. IsPartitionPoint (λ (r : Seen). nat_le r.first n ≡ true) (λ (r : Seen). nat_le r.first n ≡ false) ys c.partition_point.result) c.as_slice.ensures.value
    (IsPartitionPoint-from_clause (λ (r : Seen). nat_le r.first n) ranges c.partition_point.result c.partition_point.ensures.partitioned
    (subst (λ ys. IsPartitionedBy (λ (r : Seen). nat_le r.first n) ys) (sym c.as_slice.ensures.value) (IsPartitionedBy-leb (λ (r : Seen). r.first) items n (merged-sorted items c.self.invariant)))
    (λ a r f' k. search rules)) in
    let bound : c.partition_point.result ≤ length items = rw c.as_slice.ensures.value at c.partition_point.ensures.bound in
    subst (λ ys. IsPlace ys n c.partition_point.result) (ap (λ (r : RangeList). r.ranges) c.self.view_is) (place-from items n c.partition_point.result bound sorted)
