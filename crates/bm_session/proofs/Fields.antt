-- What the items of an update carry, for a loop that has read one item more.
use Rattle.std.proofs.Common.{◌≡◌, refl, sym, ◌∙◌, ap, ℕ, ◌+◌, ◌<◌, List, [], ◌∷◌, ◌++◌, length, take, get_or, Option, Some, None}
use Rattle.std.specs.Prelude.{ℤ}
use Rattle.std.specs.Option.{option_or}
use Rattle.std.proofs.lemmas.List.{take_more}
use Rattle.std.proofs.lemmas.List.Sums.{fold-append}
use Rattle.bm_msg.specs.declared.field.Field.{Field}
use Rattle.bm_msg.specs.Carried.{carried, with_field, last_rc, exit_code_of}

option_or-assoc : {A : Type 0} (a b c : Option A) → option_or (option_or a b) c ≡ option_or a (option_or b c)
option_or-assoc None b c = refl
option_or-assoc (Some x) b c = refl

last_rc-push : (fs : List Field) (f : Field) → last_rc (fs ++ f ∷ []) ≡ option_or (exit_code_of f) (last_rc fs)
last_rc-push [] f = go (exit_code_of f)
  where
    go : (o : Option ℤ) → option_or None o ≡ option_or o None
    go None = refl
    go (Some z) = refl
last_rc-push (g ∷ gs) f = ap (λ o. option_or o (exit_code_of g)) (last_rc-push gs f) ∙ option_or-assoc (exit_code_of f) (last_rc gs) (exit_code_of g)

take-next : (fs : List Field) (i : ℕ) (f : Field) → i < length fs → f ≡ get_or fs i f → take (i + 1) fs ≡ take i fs ++ f ∷ []
take-next fs i f l e = take_more fs i f l ∙ ap (λ y. take i fs ++ y ∷ []) (sym e)

pub carried_more : (fs : List Field) (f : Field) → carried (fs ++ f ∷ []) ≡ with_field (carried fs) f
carried_more fs f = fold-append with_field [] fs (f ∷ [])

pub last_rc_more : (fs : List Field) (i : ℕ) (f : Field) → i < length fs → f ≡ get_or fs i f → last_rc (take (i + 1) fs) ≡ option_or (exit_code_of f) (last_rc (take i fs))
last_rc_more fs i f l e = ap last_rc (take-next fs i f l e) ∙ last_rc-push (take i fs) f
