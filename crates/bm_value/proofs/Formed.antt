-- What was written so far is well formed.
use Rattle.std.proofs.Common.{◌≡◌, ℕ, ◌+◌, ◌<◌, ◌≤◌, List, [], ◌∷◌, ◌++◌, length, get_or, take, map, sym, ap, subst, ◌∙◌}
use Rattle.std.proofs.lemmas.List.{take_more, take_all}
use Rattle.bm_value.specs.declared.value.Value.{Value}
use Rattle.bm_value.specs.declared.value.Pair.{Pair}
use Rattle.bm_value.specs.Limits.{IsWellFormed, AreWellFormed, PairsAreWellFormed, IsWellFormedPair}
use Rattle.bm_value.specs.View.{tree, pair_tree, trees_of, pairs_of}

abbrev pub AllFormed : {A : Type 0} → List (Value A) → Type 0
AllFormed vs = AreWellFormed (trees_of (map tree vs))

abbrev pub PairsFormed : {A : Type 0} → List (Pair A) → Type 0
PairsFormed ps = PairsAreWellFormed (pairs_of (map pair_tree ps))

formed-append : {A : Type 0} (vs : List (Value A)) (v : Value A) → AllFormed vs → IsWellFormed (tree v) → AllFormed (vs ++ v ∷ [])
formed-append [] v h f = (f, tt)
formed-append (x ∷ vs) v h f = (h.0, formed-append vs v h.1 f)

pairs_formed-append : {A : Type 0} (ps : List (Pair A)) (p : Pair A) → PairsFormed ps → IsWellFormedPair (pair_tree p) → PairsFormed (ps ++ p ∷ [])
pairs_formed-append [] p h f = (f.0, f.1, tt)
pairs_formed-append (x ∷ ps) p h f = (h.0, h.1, pairs_formed-append ps p h.2 f)

pub formed_more : {A : Type 0} (vs : List (Value A)) (i : ℕ) (v : Value A) → i < length vs → v ≡ get_or vs i v → AllFormed (take i vs) → IsWellFormed (tree v) → AllFormed (take (i + 1) vs)
formed_more vs i v lt is h f = subst AllFormed (sym (take_more vs i v lt ∙ ap (λ w. take i vs ++ w ∷ []) (sym is))) (formed-append (take i vs) v h f)

pub pairs_formed_more : {A : Type 0} (ps : List (Pair A)) (i : ℕ) (p : Pair A) → i < length ps → p ≡ get_or ps i p → PairsFormed (take i ps) → IsWellFormedPair (pair_tree p) → PairsFormed (take (i + 1) ps)
pairs_formed_more ps i p lt is h f = subst PairsFormed (sym (take_more ps i p lt ∙ ap (λ w. take i ps ++ w ∷ []) (sym is))) (pairs_formed-append (take i ps) p h f)

pub formed_whole : {A : Type 0} (vs ws : List (Value A)) (i : ℕ) → vs ≡ ws → length vs ≤ i → AllFormed (take i vs) → AllFormed ws
formed_whole vs ws i same le h = subst AllFormed (take_all i vs le ∙ same) h

pub pairs_formed_whole : {A : Type 0} (ps qs : List (Pair A)) (i : ℕ) → ps ≡ qs → length ps ≤ i → PairsFormed (take i ps) → PairsFormed qs
pairs_formed_whole ps qs i same le h = subst PairsFormed (take_all i ps le ∙ same) h
