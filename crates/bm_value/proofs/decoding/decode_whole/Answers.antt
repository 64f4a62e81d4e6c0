use Rattle.std.proofs.Common.{◌≡◌, ◌<◌, [], length, Ok, Err, ap, arith}
use Rattle.std.proofs.lemmas.Grind.{common_steps}
use Rattle.bm_value.specs.declared.fault.DecodeError.TheVariants.{Trailing}
use Rattle.bm_value.specs.View.{tree}
use Rattle.bm_value.specs.Tree.{Tree}
use Rattle.bm_value.specs.Reading.{value_at}
use Rattle.bm_value.proofs.Fronts.{whole_at, trails_at, both_read, trails_by, whole_by, refused_after, refused_err, is_fault, no_fault, fault_is, is_trailing}
use Rattle.bm_value.proofs.decoding.decode_whole.Goals as goal

pub returns-then-is_empty-clause-found : goal.returns-then-is_empty-clause-found
returns-then-is_empty-clause-found g c =
    let none : length c.value.new.self.rest.now ≡ 0 = grind (arith, common_steps) in
    whole_by c.args.bytes.now (tree c.in-Ok.value) c.value.new.self.rest.now c.in-Ok.ensures none

pub returns-then-is_empty-clause-only : goal.returns-then-is_empty-clause-only
returns-then-is_empty-clause-only g c = λ t s d.
    ap (λ (x : Tree). Ok x) (both_read c.args.bytes.now t (tree c.in-Ok.value) [] c.value.new.self.rest.now (whole_at c.args.bytes.now t s d) c.in-Ok.ensures).0

pub returns-then-is_empty-clause-trails : goal.returns-then-is_empty-clause-trails
returns-then-is_empty-clause-trails g c = λ h.
    let none : length c.value.new.self.rest.now ≡ 0 = grind (arith, common_steps) in
    let at = trails_at c.args.bytes.now h in
    let same = both_read c.args.bytes.now at.0 (tree c.in-Ok.value) at.1 c.value.new.self.rest.now at.2 c.in-Ok.ensures in
    absurd (omega (arith, at.3, none, ap length same.1))

pub returns-then-is_empty-clause-refused : goal.returns-then-is_empty-clause-refused
returns-then-is_empty-clause-refused g c = λ f h. no_fault c.args.bytes.now f (tree c.in-Ok.value, c.value.new.self.rest.now) h c.in-Ok.ensures

pub returns-else-is_empty-clause-only : goal.returns-else-is_empty-clause-only
returns-else-is_empty-clause-only g c = λ t s d.
    let some : 0 < length c.value.new.self.rest.now = grind (arith, common_steps) in
    let same = both_read c.args.bytes.now t (tree c.in-Ok.value) [] c.value.new.self.rest.now (whole_at c.args.bytes.now t s d) c.in-Ok.ensures in
    absurd (omega (arith, some, ap length same.1))

pub returns-else-is_empty-clause-trailing : goal.returns-else-is_empty-clause-trailing
returns-else-is_empty-clause-trailing g c = λ e.
    let some : 0 < length c.value.new.self.rest.now = grind (arith, common_steps) in
    trails_by c.args.bytes.now (tree c.in-Ok.value) c.value.new.self.rest.now c.in-Ok.ensures some

pub returns-else-is_empty-clause-refused : goal.returns-else-is_empty-clause-refused
returns-else-is_empty-clause-refused g c = λ f h. no_fault c.args.bytes.now f (tree c.in-Ok.value, c.value.new.self.rest.now) h c.in-Ok.ensures

pub returns-in-Err-clause-only : goal.returns-in-Err-clause-only
returns-in-Err-clause-only g c = λ t s d. refused_after Tree c.in-Err.e (value_at 32 c.args.bytes.now) (t, []) (Ok t) (whole_at c.args.bytes.now t s d) c.in-Err.ensures

pub returns-in-Err-clause-trailing : goal.returns-in-Err-clause-trailing
returns-in-Err-clause-trailing g c = λ e.
    let is : c.in-Err.e ≡ Trailing = cc in
    absurd (is_trailing c.args.bytes.now c.in-Err.e is c.in-Err.ensures)

pub returns-in-Err-clause-trails : goal.returns-in-Err-clause-trails
returns-in-Err-clause-trails g c = λ h.
    let at = trails_at c.args.bytes.now h in
    refused_after Tree c.in-Err.e (value_at 32 c.args.bytes.now) (at.0, at.1) (Err Trailing) at.2 c.in-Err.ensures

pub returns-in-Err-clause-fault : goal.returns-in-Err-clause-fault
returns-in-Err-clause-fault g c = λ ne other. is_fault c.args.bytes.now c.in-Err.e c.in-Err.ensures ne

pub returns-in-Err-clause-refused : goal.returns-in-Err-clause-refused
returns-in-Err-clause-refused g c = λ f h. refused_err Tree c.in-Err.e f (value_at 32 c.args.bytes.now) (fault_is c.args.bytes.now f h) c.in-Err.ensures
