use Rattle.std.proofs.Common.{ℕ, drop, Ok, sym, ap₂, ◌∙◌, arith}
use Rattle.bm_value.specs.View.{tree}
use Rattle.bm_value.specs.Tree.{Tree}
use Rattle.bm_value.specs.Reading.{value_at}
use Rattle.bm_value.proofs.Fronts.{front_of, read_at, same_front, refused_ok, refused_err, is_fault, no_fault, fault_is}
use Rattle.bm_value.proofs.decoding.decode.Goals as goal

pub overflow_sub-taken : goal.overflow_sub-taken
overflow_sub-taken g c = (front_of c.args.bytes.now (tree c.in-Ok.value) c.value.new.self.rest.now c.in-Ok.ensures).shorter

pub returns-in-Ok-clause-found : goal.returns-in-Ok-clause-found
returns-in-Ok-clause-found g c =
    let front = front_of c.args.bytes.now (tree c.in-Ok.value) c.value.new.self.rest.now c.in-Ok.ensures in
    record { within = omega arith; spelled = front.spelled; nests = front.nests }

pub returns-in-Ok-clause-only : goal.returns-in-Ok-clause-only
returns-in-Ok-clause-only g c = λ t n r.
    let same = same_front c.args.bytes.now t (tree c.in-Ok.value) n c.value.new.self.rest.now r.within (sym c.in-Ok.ensures ∙ read_at c.args.bytes.now t n r.within r.spelled r.nests) in
    ap₂ (λ (x : Tree) (k : ℕ). Ok (x, k)) same.0 same.1

pub returns-in-Ok-clause-refused : goal.returns-in-Ok-clause-refused
returns-in-Ok-clause-refused g c = λ f h. no_fault c.args.bytes.now f (tree c.in-Ok.value, c.value.new.self.rest.now) h c.in-Ok.ensures

pub returns-in-Err-clause-only : goal.returns-in-Err-clause-only
returns-in-Err-clause-only g c = λ t n r. refused_ok c.in-Err.e (value_at 32 c.args.bytes.now) (t, drop n c.args.bytes.now) (t, n) (read_at c.args.bytes.now t n r.within r.spelled r.nests) c.in-Err.ensures

pub returns-in-Err-clause-fault : goal.returns-in-Err-clause-fault
returns-in-Err-clause-fault g c = λ ne. is_fault c.args.bytes.now c.in-Err.e c.in-Err.ensures ne

pub returns-in-Err-clause-refused : goal.returns-in-Err-clause-refused
returns-in-Err-clause-refused g c = λ f h. refused_err (Tree × ℕ) c.in-Err.e f (value_at 32 c.args.bytes.now) (fault_is c.args.bytes.now f h) c.in-Err.ensures
