use Rattle.std.proofs.Common.{◌≡◌, ◌∙◌, ◌+◌, ◌++◌, ◌∷◌, [], ap, sym, subst, take, add-one}
use Rattle.std.proofs.lemmas.List.{take_all}
use Rattle.std.proofs.Math.Seq.{take-suc}
use Rattle.bm_operator.specs.ProgramWords.{IsEachPlaced}
use Rattle.bm_operator.proofs.Placing.{and_one}
use Rattle.bm_operator.proofs.program_words.place_master.Goals as goal

pub loop-word-preserved : goal.loop-word-preserved
loop-word-preserved c =
    let master = c.args.master.now in
    let words = c.args.words.now in
    let i = c.loop-word.word-index in
    let w = c.word-item.result in
    let more : take (i + 1) words ≡ take i words ++ w ∷ [] = rw add-one (take-suc words i w c.loop-word-test.true) ∙ ap (λ x. take i words ++ x ∷ []) (sym c.word-item.is) in
    subst (λ ws. IsEachPlaced master ws c.push.new.self.items) (sym more)
    (subst (λ ps. IsEachPlaced master (take i words ++ w ∷ []) ps) (sym c.in_ok-push.ensures.items)
    (and_one master (take i words) c.loop-word.all.items w c.in_ok-placed.field-0 c.loop-word.invariant c.in_ok-placed.ensures))

pub returns : goal.returns
returns c =
    subst (λ ws. IsEachPlaced c.args.master.now ws c.loop-word.all.items) (take_all c.loop-word.word-index c.args.words.now c.loop-word-test.false) c.loop-word.invariant
