use Rattle.std.proofs.Common.{◌≡◌, ◌<◌, ◌∷◌, ◌++◌, [], None, length, false, refl, arith}
use Rattle.std.specs.Prelude.{IsOk, vec_len, vec_capacity}
use Rattle.std.proofs.lemmas.Grind.{common_steps}
use Rattle.bm_session.specs.declared.results.Results.TheVariants.{Exception}
use Rattle.bm_session.proofs.Stepped.{entry}
use Rattle.bm_session.proofs.Taking.{table-Go, go-room}
use Rattle.bm_session.proofs.table.Table.take_go.Goals as goal

pub returns-clause-table : goal.returns-clause-table
returns-clause-table c = λ t is w r.
    let four : length c.args.self.now.opened.items < 4 = go-room c.args.self.now t is r in
    let fits : vec_len c.args.self.now.opened < vec_capacity c.args.self.now.opened = grind (arith, common_steps) in
    let put : IsOk c.push.result = c.push.ensures.succeeds fits in
    let open_items : c.push.new.self.items ≡ c.args.self.now.opened.items ++ entry (length c.args.self.now.outcomes.items) c.args.self.now.orders false Exception ∷ [] = grind (arith, common_steps) in
    let room : vec_len c.args.self.now.outcomes < vec_capacity c.args.self.now.outcomes = omega (arith, c.requires.room) in
    let put_outcome : IsOk c.push-2.result = c.push-2.ensures.succeeds room in
    let outcome_items : c.push-2.new.self.items ≡ c.args.self.now.outcomes.items ++ None ∷ [] = grind (arith, common_steps) in
    table-Go c.args.self.now _ t is w r refl refl open_items outcome_items refl
