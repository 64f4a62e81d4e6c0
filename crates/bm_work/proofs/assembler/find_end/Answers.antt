use Rattle.std.proofs.Common.{◌≡◌, ◌-◌, Some, arith, sym, ap, ◌∙◌}
use Rattle.bm_work.proofs.Ends.{first_end-found, first_end-longest, first_end-nowhere}
use Rattle.bm_work.proofs.assembler.find_end.Goals as goal

pub returns-in-Some-clause-end : goal.returns-in-Some-clause-end
returns-in-Some-clause-end c =
    sym (first_end-found c.args.before c.args.bytes.now c.min-len.result c.in-Some.place (omega arith) (omega arith) c.in-Some.ensures)

pub returns-in-None-clause-end : goal.returns-in-None-clause-end
returns-in-None-clause-end c =
    let room : c.min-len.result ≡ 16384 - c.args.before = omega arith in
    sym (first_end-longest c.args.before c.args.bytes.now c.min-len.result (omega arith) (omega arith) (omega arith) c.in-None.ensures ∙ ap Some room)

pub returns-in-None-2-clause-end : goal.returns-in-None-2-clause-end
returns-in-None-2-clause-end c = sym (first_end-nowhere c.args.before c.args.bytes.now c.min-len.result (omega arith) (omega arith) c.in-None-2.ensures)
