use Rattle.std.proofs.Common.{◌≡◌, ◌∙◌, sym, ap, Some, None, true, bytes_eq}
use Rattle.std.specs.Prelude.{find}
use Rattle.bm_store.specs.Book.{placed}
use Rattle.bm_store.specs.Kept.{Named, Kept, have_blocks}
use Rattle.bm_store.proofs.Meaning.{log-found, log-empty, log-absent}
use Rattle.bm_store.proofs.command_logs.CommandLogs.blocks.Goals as goal

pub returns-in-Some : goal.returns-in-Some
returns-in-Some c =
    let same : c.as_slice.result.now ≡ c.args.self.now.named = c.as_slice.ensures.value ∙ ap (λ (k : Kept). k.named) c.self.view_is in
    let full : have_blocks c.args.self.now.named ≡ true = ap (λ (k : Kept). have_blocks k.named) (sym c.self.view_is) ∙ c.self.invariant.0 in
    let at : find (λ (l : Named). bytes_eq l.name c.args.name.now) c.args.self.now.named ≡ Some c.in-Some.log.now = sym (c.in-Some.ensures ∙ ap (find (λ (l : Named). bytes_eq l.name c.args.name.now)) same) in
    ap Some c.blocks-in-Some.ensures ∙ sym (log-found placed c.args.self.now c.args.name.now c.in-Some.log.now full at)

pub returns-in-None : goal.returns-in-None
returns-in-None c =
    let same : c.as_slice.result.now ≡ c.args.self.now.named = c.as_slice.ensures.value ∙ ap (λ (k : Kept). k.named) c.self.view_is in
    let at : find (λ (l : Named). bytes_eq l.name c.args.name.now) c.args.self.now.named ≡ None = sym (c.in-None.ensures ∙ ap (find (λ (l : Named). bytes_eq l.name c.args.name.now)) same) in
    sym (log-empty placed c.args.self.now c.args.name.now at (sym c.eq.ensures ∙ c.if-eq.true))

pub returns-in-None-2 : goal.returns-in-None-2
returns-in-None-2 c =
    let same : c.as_slice.result.now ≡ c.args.self.now.named = c.as_slice.ensures.value ∙ ap (λ (k : Kept). k.named) c.self.view_is in
    let at : find (λ (l : Named). bytes_eq l.name c.args.name.now) c.args.self.now.named ≡ None = sym (c.in-None.ensures ∙ ap (find (λ (l : Named). bytes_eq l.name c.args.name.now)) same) in
    sym (log-absent placed c.args.self.now c.args.name.now at (sym c.eq.ensures ∙ c.if-eq.false))
