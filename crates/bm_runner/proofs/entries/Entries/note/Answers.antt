use Rattle.std.proofs.Common.{◌≡◌, ℕ, ◌+◌, ◌++◌, ◌∷◌, [], List, length, get_or, set, ap, ◌∙◌, arith}
use Rattle.std.proofs.lemmas.List.{length-append}
use Rattle.bm_runner.specs.declared.port.Told.{Told}
use Rattle.bm_runner.specs.declared.port.Polled.{Polled}
use Rattle.bm_runner.specs.Port.{asked}
use Rattle.bm_runner.specs.Entries.{Kept}
use Rattle.bm_runner.proofs.Places.{set-last, get-last}
use Rattle.bm_runner.proofs.entries.Entries.note.Goals as goal

-- the last entry, asked for once more and written back
note_last : (xs before : List Told) (entry got new : Told) (last : ℕ) (said : Polled) → last + 1 ≡ length xs → xs ≡ before ++ entry ∷ [] → got ≡ get_or xs last got → new ≡ asked got said → set xs last new ≡ before ++ asked entry said ∷ []
note_last xs before entry got new last said at e hg hn =
    let place : last ≡ length before = omega (arith, at, ap length e, length-append before (entry ∷ [])) in
    let same : got ≡ entry = hg ∙ ap (λ ys. get_or ys last got) e ∙ ap (λ k. get_or (before ++ entry ∷ []) k got) place ∙ get-last before entry got in
    ap (λ ys. set ys last new) e ∙ ap (λ k. set (before ++ entry ∷ []) k new) place ∙ set-last before entry new
    ∙ ap (λ y. before ++ y ∷ []) (hn ∙ ap (λ g. asked g said) same)

pub returns-clause-told : goal.returns-clause-told
returns-clause-told c =
    let told : c.self.inside.vec.items ≡ c.args.self.now.told = ap (λ (e : Kept). e.told) c.self.view_is in
    λ before entry e. note_last c.self.inside.vec.items before entry c.index-entry.result.now c.after.result _ c.args.said (omega (arith, ap length (told ∙ e), length-append before (entry ∷ []))) (told ∙ e) c.index-entry.ensures c.after.ensures
