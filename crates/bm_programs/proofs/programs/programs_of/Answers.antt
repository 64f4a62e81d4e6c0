use Rattle.std.proofs.Common.{◌≡◌, ◌∙◌, ◌+◌, ◌++◌, ◌∷◌, [], ap, sym, subst, take, add-one}
use Rattle.std.proofs.lemmas.List.{take_all}
use Rattle.std.proofs.Math.Seq.{take-suc}
use Rattle.bm_programs.specs.WorkerPrograms.{AreProgramsOf}
use Rattle.bm_programs.proofs.ProgramLists.{and_one}
use Rattle.bm_programs.proofs.programs.programs_of.Goals as goal

pub loop-worker-preserved : goal.loop-worker-preserved
loop-worker-preserved c =
    let master = c.args.master.now in
    let workers = c.args.workers.now in
    let i = c.loop-worker.worker-index in
    let w = c.worker-item.result in
    let more : take (i + 1) workers ≡ take i workers ++ w ∷ [] = rw add-one (take-suc workers i w c.loop-worker-test.true) ∙ ap (λ x. take i workers ++ x ∷ []) (sym c.worker-item.is) in
    subst (λ ws. AreProgramsOf master ws c.push.new.self.items) (sym more)
    (subst (λ ps. AreProgramsOf master (take i workers ++ w ∷ []) ps) (sym c.in_ok-push.ensures.items)
    (and_one master (take i workers) c.loop-worker.programs.items w c.in_ok-program_of.field-0 c.loop-worker.invariant c.in_ok-program_of.ensures))

pub returns : goal.returns
returns c =
    subst (λ ws. AreProgramsOf c.args.master.now ws c.loop-worker.programs.items) (take_all c.loop-worker.worker-index c.args.workers.now c.loop-worker-test.false) c.loop-worker.invariant
