-- A log that is there stays there, whatever events follow.
use Rattle.std.proofs.Common.{◌≡◌, refl, sym, ◌∙◌, ap, ℕ, ◌+◌, ◌<◌, Bool, true, false, cond, not, ◌||◌, ◌&&◌, List, [], ◌∷◌, ◌++◌, arith, append_assoc}
use Rattle.std.specs.Prelude.{nat_lt, bytes_eq}
use Rattle.std.proofs.lemmas.List.{append-nil}
use Rattle.std.proofs.lemmas.Bool.Decides.{nat_tests}
use Rattle.bm_lines.specs.Names.{Name, stdio}
use Rattle.bm_lines.specs.Lines.{Line}
use Rattle.bm_session.specs.Events.{is_go}
use Rattle.bm_session.specs.declared.event.Event.{Event}
use Rattle.bm_session.specs.Trace.{Trace, has_log, commands, blocks, is_empty}
use Rattle.bm_session.proofs.Pushed.{commands-push, blocks-push, added}

and-first : (a b : Bool) → (a && b) ≡ true → a ≡ true
and-first true b h = refl
and-first false b h = cc

and-second : (a b : Bool) → (a && b) ≡ true → b ≡ true
and-second true b h = h
and-second false b h = cc

and-both : (a b : Bool) → a ≡ true → b ≡ true → (a && b) ≡ true
and-both a b h g = ap (λ c. c && b) h ∙ g

blocks-more : (b : Bool) (xs ys : List (List Line)) → (b || not (is_empty xs)) ≡ true → (b || not (is_empty (xs ++ ys))) ≡ true
blocks-more true xs ys h = refl
blocks-more false [] ys h = cc
blocks-more false (x ∷ xs) ys h = refl

has_log-push : (k : ℕ) (name : Name) (t : Trace) (e : Event) → has_log t k name ≡ true → has_log (t ++ e ∷ []) k name ≡ true
has_log-push k name t e h =
    let begun : nat_lt k (commands t) ≡ true = and-first (nat_lt k (commands t)) (bytes_eq name stdio || not (is_empty (blocks t k name))) h in
    let count : commands (t ++ e ∷ []) ≡ commands t + cond (is_go e) 1 0 = commands-push t e in
    let less : k < commands t = grind (arith, nat_tests) in
    let later : k < commands (t ++ e ∷ []) = omega (arith, count, less) in
    let still : nat_lt k (commands (t ++ e ∷ [])) ≡ true = grind (arith, nat_tests) in
    let there = blocks-more (bytes_eq name stdio) (blocks t k name) (added t k name e) (and-second (nat_lt k (commands t)) (bytes_eq name stdio || not (is_empty (blocks t k name))) h) in
    and-both (nat_lt k (commands (t ++ e ∷ []))) (bytes_eq name stdio || not (is_empty (blocks (t ++ e ∷ []) k name))) still (ap (λ bs. bytes_eq name stdio || not (is_empty bs)) (blocks-push t e k name) ∙ there)

-- the law of this file
pub has_log-grows : (k : ℕ) (name : Name) (t v : Trace) → has_log t k name ≡ true → has_log (t ++ v) k name ≡ true
has_log-grows k name t [] h = ap (λ u. has_log u k name) (append-nil t) ∙ h
has_log-grows k name t (e ∷ v) h = ap (λ u. has_log u k name) (sym (append_assoc t (e ∷ []) v)) ∙ has_log-grows k name (t ++ e ∷ []) v (has_log-push k name t e h)
