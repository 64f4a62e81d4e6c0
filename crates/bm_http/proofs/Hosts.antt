-- What absolute form puts before a path.
use Rattle.std.proofs.Common.{◌≡◌, ◌≢◌, ℕ, List, [], ◌∷◌, ◌++◌, Option, Some, None, Bool, true, false, cond, refl, sym, ap, ◌∙◌, arith, ◌==◌}
use Rattle.std.proofs.lemmas.Bool.Decides.{nat_tests}
use Rattle.bm_http.specs.Targets.{after_start}

-- a text that begins so
pub after_start-append : (start rest : List ℕ) → after_start start (start ++ rest) ≡ Some rest
after_start-append [] rest = refl
after_start-append (b ∷ start) rest =
    let e : (b == b) ≡ true = grind (arith, nat_tests) in
    ap (λ t. cond t (after_start start (start ++ rest)) None) e ∙ after_start-append start rest

-- and one that doesn't
by_test : (b c : ℕ) (test : Bool) (rest : Option (List ℕ)) → (b == c) ≡ test → (b ≡ c → rest ≡ None) → cond (b == c) rest None ≡ None
by_test b c false rest e h = ap (λ t. cond t rest None) e
by_test b c true rest e h =
    let same : b ≡ c = grind (arith, nat_tests) in
    ap (λ t. cond t rest None) e ∙ h same

pub after_start-other : (start text : List ℕ) → ((rest : List ℕ) → text ≢ start ++ rest) → after_start start text ≡ None
after_start-other [] text h = absurd (h text refl)
after_start-other (b ∷ start) [] h = refl
after_start-other (b ∷ start) (c ∷ text) h =
    by_test b c (b == c) (after_start start text) refl
    (λ same. after_start-other start text (λ rest q. h rest (ap (λ x. x ∷ text) (sym same) ∙ ap (λ t. b ∷ t) q)))
