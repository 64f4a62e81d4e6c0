use Rattle.std.proofs.Common.{sym, ◌∙◌, arith}
use Rattle.std.proofs.lemmas.List.{length-set}
use Rattle.bm_store.specs.Kept.{kept_with_end}
use Rattle.bm_store.proofs.Meaning.{changed_more}
use Rattle.bm_store.proofs.book.end_all.Goals as goal

pub loop-command-preserved : goal.loop-command-preserved
loop-command-preserved c = record {
  changed = changed_more (kept_with_end c.args.results) c.args.commands.now c.loop-command.commands c.loop-command.command-index c.command-item.result c.end.new.self (omega (arith, c.loop-command.invariant.size, c.loop-command-test.true)) c.end.ensures c.loop-command.invariant.changed c.loop-command.invariant.size;
  size = c.loop-command.invariant.size ∙ sym (length-set c.loop-command.commands c.loop-command.command-index c.end.new.self);
}
