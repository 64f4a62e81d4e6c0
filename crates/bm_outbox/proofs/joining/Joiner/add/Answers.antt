use Rattle.std.proofs.Common.{rules, ◌≡◌, ◌++◌, ◌∷◌, [], ap, ◌∙◌, sym, subst, string_bytes, List, ℕ}
use Rattle.std.proofs.lemmas.List.{map-append}
use Rattle.bm_outbox.specs.Joining.{Adds, Fit, texts_of}
use Rattle.bm_outbox.specs.declared.said.Said.{Said}
use Rattle.bm_outbox.proofs.Joins.{adds_one, adds_to}
use Rattle.bm_outbox.proofs.joining.Joiner.add.Goals as goal

-- the text that may grow did
pub returns-then-fit : goal.returns-then-fit
returns-then-fit c =
    let text = string_bytes c.args.text in
    let same = subst (λ (t : List ℕ). Fit c.as_str.result.now t) c.as_str-2.ensures.value (c.fit.ensures.fit c.if-fit.true) in
    let fits = subst (λ (s : List ℕ). Fit s text) c.as_str.ensures.value same in
    let grown : string_bytes c.push_str.new.self ≡ string_bytes c.self.inside.current ++ text = search rules in
    rw (← c.self.view_is) (
    subst
    (λ (s : List ℕ). Adds (record { letter = c.self.inside.letter; done = texts_of c.self.inside.done.items; current = string_bytes c.self.inside.current }) text
    (record { letter = c.self.inside.letter; done = texts_of c.self.inside.done.items; current = s }))
    (sym grown)
    (adds_to c.self.inside.letter (texts_of c.self.inside.done.items) (string_bytes c.self.inside.current) text fits.0)
    )

-- another one was begun
pub returns : goal.returns
returns c =
    let letter = c.self.inside.letter in
    let done = texts_of c.self.inside.done.items in
    let current = string_bytes c.self.inside.current in
    let text = string_bytes c.args.text in
    let other = subst (λ (t : List ℕ). Fit c.as_str.result.now t → ⊥) c.as_str-2.ensures.value (c.fit.ensures.apart c.if-fit.false) in
    let apart = subst (λ (s : List ℕ). Fit s text → ⊥) c.as_str.ensures.value other in
    let begun : string_bytes c.replace-before.new.dest ≡ text = search rules in
    let kept : texts_of c.push.new.self.items ≡ done ++ current ∷ [] =
    ap texts_of c.in_ok-push.ensures.items
    ∙ (map-append (λ (s : Said). s.text) c.self.inside.done.items _
    ∙ ap (λ (t : List ℕ). done ++ t ∷ []) (c.from_string.ensures ∙ ap string_bytes c.replace-before.ensures.value)) in
    rw (← c.self.view_is) (
    subst
    (λ (d : List (List ℕ)). Adds (record { letter = letter; done = done; current = current }) text
    (record { letter = letter; done = d; current = string_bytes c.replace-before.new.dest }))
    (sym kept)
    (subst
    (λ (s : List ℕ). Adds (record { letter = letter; done = done; current = current }) text
    (record { letter = letter; done = done ++ current ∷ []; current = s }))
    (sym begun)
    (adds_one letter done current text apart))
    )
