use Rattle.std.proofs.Common.{◌≡◌, ◌∙◌, sym, ap, Some, None, bytes_eq, length, List}
use Rattle.std.specs.Prelude.{find}
use Rattle.bm_lines.specs.Names.{stdio}
use Rattle.bm_lines.specs.Lines.{Line}
use Rattle.bm_session.specs.Trace.{joined}
use Rattle.bm_store.specs.Kept.{Named, Kept}
use Rattle.bm_store.proofs.Meaning.{find-blocks, find-no-blocks}
use Rattle.bm_store.proofs.command_logs.CommandLogs.stdio_lines.Goals as goal

pub returns-in-Some : goal.returns-in-Some
returns-in-Some c =
    let same : c.as_slice.result.now ≡ c.args.self.now.named = c.as_slice.ensures.value ∙ ap (λ (k : Kept). k.named) c.self.view_is in
    let at : find (λ (l : Named). bytes_eq l.name stdio) c.args.self.now.named ≡ Some c.in-Some.log.now = sym (c.in-Some.ensures ∙ ap (find (λ (l : Named). bytes_eq l.name stdio)) same) in
    c.lines.ensures ∙ ap (λ (bs : List (List Line)). length (joined bs)) (sym (find-blocks c.args.self.now.named stdio c.in-Some.log.now at))

pub returns-in-None : goal.returns-in-None
returns-in-None c =
    let same : c.as_slice.result.now ≡ c.args.self.now.named = c.as_slice.ensures.value ∙ ap (λ (k : Kept). k.named) c.self.view_is in
    let at : find (λ (l : Named). bytes_eq l.name stdio) c.args.self.now.named ≡ None = sym (c.in-None.ensures ∙ ap (find (λ (l : Named). bytes_eq l.name stdio)) same) in
    ap (λ (bs : List (List Line)). length (joined bs)) (sym (find-no-blocks c.args.self.now.named stdio at))
