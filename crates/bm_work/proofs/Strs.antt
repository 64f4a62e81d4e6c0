-- The words of an array, one after the other.
use Rattle.std.proofs.Common.{◌≡◌, ℕ, ◌+◌, ◌<◌, List, [], ◌∷◌, ◌++◌, length, drop, get_or, map, Option, Some, None, option_map, refl, sym, ap, ◌∙◌, arith, append_assoc}
use Rattle.std.specs.Option.{option_and_then}
use Rattle.std.proofs.lemmas.List.{drop_more}
use Rattle.bm_value.specs.Tree.{Tree, array}
use Rattle.bm_value.specs.View.{tree, trees_of}
use Rattle.bm_value.specs.declared.value.Value.{Value}
use Rattle.bm_work.specs.Argv.{str_of, strs_of, words_of}

abbrev pub strs_in : {A : Type 0} → List (Value A) → Option (List (List ℕ))
strs_in vs = strs_of (trees_of (map tree vs))

-- these words, then those to come
abbrev pub onto : List (List ℕ) → Option (List (List ℕ)) → Option (List (List ℕ))
onto front more = option_map (λ words. front ++ words) more

pub strs-more : {A : Type 0} (vs : List (Value A)) (i : ℕ) (v : Value A) → i < length vs → v ≡ get_or vs i v → strs_in (drop i vs) ≡ option_and_then (λ s. option_map (λ more. s ∷ more) (strs_in (drop (i + 1) vs))) (str_of (tree v))
strs-more vs i v lt is = ap strs_in (drop_more vs i v lt) ∙ ap (λ w. strs_in (w ∷ drop (i + 1) vs)) (sym is)

onto-cons : (front : List (List ℕ)) (s : List ℕ) (more : Option (List (List ℕ))) → onto (front ++ s ∷ []) more ≡ onto front (option_map (λ words. s ∷ words) more)
onto-cons front s None = refl
onto-cons front s (Some words) = ap Some (append_assoc front (s ∷ []) words)

pub strs-pushed : {A : Type 0} (vs : List (Value A)) (i : ℕ) (v : Value A) (front : List (List ℕ)) (s : List ℕ) (total : Option (List (List ℕ))) → i < length vs → v ≡ get_or vs i v → str_of (tree v) ≡ Some s → onto front (strs_in (drop i vs)) ≡ total
    → onto (front ++ s ∷ []) (strs_in (drop (i + 1) vs)) ≡ total
strs-pushed vs i v front s total lt is found h =
    let rest = strs_in (drop (i + 1) vs) in
    onto-cons front s rest
    ∙ (ap (onto front) (sym (strs-more vs i v lt is ∙ ap (option_and_then (λ t. option_map (λ more. t ∷ more) rest)) found)) ∙ h)

pub strs-none : {A : Type 0} (vs : List (Value A)) (i : ℕ) (v : Value A) (front : List (List ℕ)) (total : Option (List (List ℕ))) → i < length vs → v ≡ get_or vs i v → str_of (tree v) ≡ None → onto front (strs_in (drop i vs)) ≡ total → None ≡ total
strs-none vs i v front total lt is absent h =
    sym (ap (onto front) (strs-more vs i v lt is ∙ ap (option_and_then (λ t. option_map (λ more. t ∷ more) (strs_in (drop (i + 1) vs)))) absent)) ∙ h

-- an array with an item
pub words-some : (vs : List Tree) → 0 < length vs → words_of (Some (array (trees_of vs))) ≡ strs_of (trees_of vs)
words-some [] h = absurd (omega arith)
words-some (t ∷ ts) h = refl

pub words-none : (vs : List Tree) → length vs ≡ 0 → words_of (Some (array (trees_of vs))) ≡ None
words-none [] h = refl
words-none (t ∷ ts) h = absurd (omega arith)
