-- What is in the first place that passes a test.
use Rattle.std.proofs.Common.{◌≡◌, ◌∙◌, ℕ, Bool, true, false, not, nat_lt, List, length, Option, Some, None, refl, sym, ap}
use Rattle.std.specs.Prelude.{slice_get, position}
use Rattle.std.proofs.lemmas.List.Quantifiers.{position-Some}
use Rattle.std.proofs.lemmas.Option.{get_or_from_slice_get}
use Rattle.bm_build_queue.specs.HeldBuilds.{HeldState}
use Rattle.bm_master.specs.Held.{is_free}

not_true : (b : Bool) → not b ≡ true → b ≡ false
not_true false h = refl
not_true true h = sym h

-- the build in the first place with a free one is free
pub free_there
    : (places : List (Option HeldState)) (at : ℕ) (build : HeldState) → position is_free places ≡ Some at
    → slice_get places at ≡ Some (Some build) → nat_lt build.ended (length build.commands) ≡ false
free_there places at build first there =
    not_true (nat_lt build.ended (length build.commands))
    (ap is_free (sym (get_or_from_slice_get places at (Some build) (Some build) there))
    ∙ (position-Some is_free places at (Some build) first).1)
