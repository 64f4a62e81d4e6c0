use Rattle.std.proofs.Common.{rules, add-one, ◌≡◌, ◌∙◌, ◌∷◌, ◌++◌, [], ◌+◌, map, take, ap, sym, cond, true}
use Rattle.std.proofs.lemmas.List.{map-append, take_all}
use Rattle.std.proofs.Math.Seq.{take-suc}
use Rattle.std.specs.Result.{is_ok}
use Rattle.bm_lanes.specs.ConfigLists.{capacities, viewer_counts}
use Rattle.bm_lanes.proofs.opening.open_all.Goals as goal

pub loop-worker-preserved : goal.loop-worker-preserved
loop-worker-preserved g c =
    let blanks = c.loop-worker.blanks.items in
    let blank = c.in_ok-blank.blank in
    let workers = c.args.workers.now in
    let capacity = c.args.capacity in
    let i = c.loop-worker.worker-index in
    let w = c.worker-item.result in
    let ok : is_ok c.push.result ≡ true = search rules in
    let grown : c.push.new.self.items ≡ blanks ++ blank ∷ [] = c.push.ensures.items ∙ ap (λ b. cond b (blanks ++ blank ∷ []) blanks) ok in
    let more : take (i + 1) workers ≡ take i workers ++ w ∷ [] = rw add-one (take-suc workers i w c.loop-worker-test.true) ∙ ap (λ x. take i workers ++ x ∷ []) (sym c.worker-item.is) in
    record {
      capacities = ap (λ bs. map (λ b. b.capacity) bs) grown
          ∙ map-append (λ b. b.capacity) blanks (blank ∷ [])
          ∙ ap (λ ns. ns ++ blank.capacity ∷ []) c.loop-worker.invariant.capacities
          ∙ ap (λ n. capacities capacity (take i workers) ++ n ∷ []) c.in_ok-blank.ensures.0
          ∙ sym (map-append (λ x. capacity) (take i workers) (w ∷ []))
          ∙ ap (capacities capacity) (sym more);
      viewers = ap (λ bs. map (λ b. b.viewers) bs) grown
          ∙ map-append (λ b. b.viewers) blanks (blank ∷ [])
          ∙ ap (λ ns. ns ++ blank.viewers ∷ []) c.loop-worker.invariant.viewers
          ∙ ap (λ n. viewer_counts (take i workers) ++ n ∷ []) c.in_ok-blank.ensures.1
          ∙ sym (map-append (λ x. x.slots + 1) (take i workers) (w ∷ []))
          ∙ ap viewer_counts (sym more);
    }

pub returns-clause-capacity : goal.returns-clause-capacity
returns-clause-capacity g c = c.loop-worker.invariant.capacities ∙ ap (capacities c.args.capacity) (take_all c.loop-worker.worker-index c.args.workers.now c.loop-worker-test.false)

pub returns-clause-viewers : goal.returns-clause-viewers
returns-clause-viewers g c = c.loop-worker.invariant.viewers ∙ ap viewer_counts (take_all c.loop-worker.worker-index c.args.workers.now c.loop-worker-test.false)
