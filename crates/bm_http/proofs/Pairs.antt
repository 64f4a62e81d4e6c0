-- The last value of a key, pair by pair.
use Rattle.std.proofs.Common.{◌≡◌, ℕ, List, [], ◌∷◌, Option, Some, None, Bool, true, false, cond, bytes_eq, refl, ap, ◌∙◌}
use Rattle.std.specs.Option.{option_or}
use Rattle.bm_http.specs.Targets.{text_of, last_value}

abbrev pub newer : Bool → List ℕ → Option (List ℕ) → Option (List ℕ)
newer b text last = cond b (Some text) last

onto : (found : Option (List ℕ)) (b : Bool) (text : List ℕ) (last : Option (List ℕ)) → option_or found (newer b text last) ≡ option_or (option_or found (cond b (Some text) None)) last
onto None true text last = refl
onto None false text last = refl
onto (Some x) b text last = refl

-- one pair on
pub last_value-next : (key : List ℕ) (pairs : List (List ℕ × List ℕ)) (name value : List ℕ) (rest : List (List ℕ × List ℕ)) (n v : List ℕ) (last next whole : Option (List ℕ))
    → pairs ≡ (name, value) ∷ rest → n ≡ text_of name → v ≡ text_of value → next ≡ newer (bytes_eq n key) v last
    → option_or (last_value key pairs) last ≡ whole → option_or (last_value key rest) next ≡ whole
last_value-next key pairs name value rest n v last next whole p en ev e h =
    let a : next ≡ newer (bytes_eq (text_of name) key) (text_of value) last = rw (en, ev) at e in
    let b : option_or (last_value key ((name, value) ∷ rest)) last ≡ whole = rw p at h in
    ap (option_or (last_value key rest)) a ∙ onto (last_value key rest) (bytes_eq (text_of name) key) (text_of value) last ∙ b

pub option_or-none : (o : Option (List ℕ)) → option_or o None ≡ o
option_or-none None = refl
option_or-none (Some x) = refl

-- with no pair left
pub last_value-end : (key : List ℕ) (pairs : List (List ℕ × List ℕ)) (last whole : Option (List ℕ)) → pairs ≡ [] → option_or (last_value key pairs) last ≡ whole → last ≡ whole
last_value-end key pairs last whole e h = rw e at h
