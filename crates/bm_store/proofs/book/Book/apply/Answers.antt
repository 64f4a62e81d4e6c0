use Rattle.std.proofs.Common.{◌≡◌, ◌++◌, ◌∙◌, ap, length, take, drop, arith}
use Rattle.std.proofs.lemmas.Grind.{common_steps}
use Rattle.bm_store.specs.Kept.{logs_in, kept_after}
use Rattle.bm_store.proofs.Meaning.{kept_books_mean_logs}
use Rattle.bm_store.proofs.book.Book.apply.Goals as goal

pub returns-in_ok-add_at-in-Lines-clause-logs : goal.returns-in_ok-add_at-in-Lines-clause-logs
returns-in_ok-add_at-in-Lines-clause-logs c =
    let kept : take c.self.inside.commands.len (c.add_at.new.commands ++ drop (length c.add_at.new.commands) c.self.inside.commands.items) ≡ kept_after c.args.self.now c.args.item.now = grind (arith, common_steps) in
    ap logs_in kept ∙ kept_books_mean_logs c.args.self.now c.args.item.now

pub returns-in-End-clause-logs : goal.returns-in-End-clause-logs
returns-in-End-clause-logs c =
    let kept : take c.self.inside.commands.len (c.end_at.new.commands ++ drop (length c.end_at.new.commands) c.self.inside.commands.items) ≡ kept_after c.args.self.now c.args.item.now = grind (arith, common_steps) in
    ap logs_in kept ∙ kept_books_mean_logs c.args.self.now c.args.item.now

pub returns-in-Gone-clause-logs : goal.returns-in-Gone-clause-logs
returns-in-Gone-clause-logs c =
    let kept : take c.self.inside.commands.len (c.end_all.new.commands ++ drop (length c.end_all.new.commands) c.self.inside.commands.items) ≡ kept_after c.args.self.now c.args.item.now = grind (arith, common_steps) in
    ap logs_in kept ∙ kept_books_mean_logs c.args.self.now c.args.item.now
