use Rattle.std.proofs.Common.{rules, ◌≡◌, ◌+◌, ◌++◌, ◌∙◌, [], ◌∷◌, List, length, Some, Ok, sym, ap, subst}
use Rattle.std.specs.List.{slice_get}
use Rattle.std.proofs.lemmas.List.{length-append}
use Rattle.bm_session.specs.declared.results.Results.{Results}
use Rattle.bm_board.specs.Board.{result_on}
use Rattle.bm_build_queue.proofs.Listing.{listed}
use Rattle.bm_build_queue.proofs.build_queue.BuildQueue.results.Goals as goal

pub loop-number-preserved : goal.loop-number-preserved
loop-number-preserved g c =
    let b = c.args.self.now.board in
    let one : length c.loop-number.all.items ≡ c.loop-number.number = c.loop-number.invariant.0 in
    let more : c.push.new.self.items ≡ c.loop-number.all.items ++ c.in_ok-result.result ∷ [] = search rules in
    let found : result_on b c.loop-number.number ≡ Ok (Some c.in_ok-result.result) = search rules in (
      ap length more ∙ length-append _ _ ∙ ap (λ n. n + 1) one,
      λ n r e. listed (λ k x. result_on b k ≡ Ok (Some x)) c.loop-number.all.items c.in_ok-result.result c.loop-number.invariant.1
          (subst (λ k. result_on b k ≡ Ok (Some c.in_ok-result.result)) (sym one) found) n r (ap (λ (xs : List Results). slice_get xs n) (sym more) ∙ e),
    )
