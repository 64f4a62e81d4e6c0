use Rattle.std.proofs.Common.{◌<◌, ◌∙◌, ap, set, length, arith}
use Rattle.std.proofs.lemmas.Grind.{common_steps}
use Rattle.std.proofs.lemmas.List.Edits.{map_over_more}
use Rattle.bm_session.specs.Table.{with_stop}
use Rattle.bm_session.proofs.open.note_stop.Goals as goal

pub loop-i-preserved : goal.loop-i-preserved
loop-i-preserved c =
    let inside : c.loop-i.i < length c.args.listed.now.items = grind (arith, common_steps) in
    record {
      items = ap (set c.loop-i.listed.items c.loop-i.i) c.after_stop-entry.ensures
          ∙ map_over_more (with_stop c.args.command) c.args.listed.now.items c.loop-i.listed.items c.loop-i.i c.index.result.now inside c.loop-i.invariant.items c.index.ensures;
      capacity = c.loop-i.invariant.capacity;
    }
