use Rattle.std.proofs.Common.{◌∙◌, ◌+◌, ap, sym, take}
use Rattle.std.specs.Option.{option_copied, option_to_list}
use Rattle.bm_session.proofs.Logged.{HasLog, with_block, without_block, taken_front, taken_at, table_next, table_few}
use Rattle.bm_session.proofs.log.walk.Goals.{in-Some+in_ok-extend, in_default}
use Rattle.bm_session.proofs.log.walk.Goals as goal

pub follow-requires-clause-known : goal.follow-requires-clause-known
follow-requires-clause-known c = (_, c.loop-i.invariant.table, taken_at c.args.t.now c.loop-i.i c.index-t-i.result c.requires c.loop-i-test.true c.index-t-i.is)

pub loop-i-preserved : goal.loop-i-preserved
loop-i-preserved c =
    let t = c.args.t.now in
    let i = c.loop-i.i in
    let x = c.index-t-i.result in
    let before = c.loop-i.invariant in
    let taken = taken_at t i x c.requires c.loop-i-test.true c.index-t-i.is in
    let counts = c.in_ok-counts.ensures.counts _ before.table taken in
    let table = table_next c.follow.new.self t i x c.loop-i-test.true c.index-t-i.is (c.in_ok-counts.ensures.table _ before.table (taken_front t i c.requires) taken) in
    let log : HasLog (take (i + 1) t) c.args.command c.args.name.now c.match-block_added.found c.match-block_added.log =
    elim c.match-block_added.branch [
      | in-Some+in_ok-extend w ↦
          let adds = ap (λ o. option_to_list (option_copied o)) (sym w.in-Some.is) ∙ c.block_added.ensures in
          let more = with_block t c.in_ok-counts.counts i c.args.command c.args.name.now x counts c.loop-i-test.true c.index-t-i.is w.in-Some.block.now c.loop-i.log adds before.log in
          (w.found-is ∙ more.0, w.log-is ∙ w.in_ok-extend.ensures.ok ∙ more.1)
      | in_default w ↦
          let adds = ap (λ o. option_to_list (option_copied o)) (sym w.in_default.is) ∙ c.block_added.ensures in
          let more = without_block t c.in_ok-counts.counts i c.args.command c.args.name.now x counts c.loop-i-test.true c.index-t-i.is c.loop-i.found c.loop-i.log adds (before.found, before.log) in
          (w.found-is ∙ more.0, w.log-is ∙ more.1)
    ] in
    record {
      table = table;
      few = table_few c.follow.new.self t i c.loop-i-test.true table;
      places = c.in_ok-counts.ensures.places;
      found = log.0;
      log = log.1;
    }
