-- What holds of a writer's end.
use Rattle.std.proofs.Common.{◌≡◌, ◌≤◌, ◌∷◌, ◌++◌, ℕ, [], List, true, false, length, sym, ap, ◌∙◌}
use Rattle.std.proofs.lemmas.List.{append-nil}
use Rattle.bm_session.specs.declared.item.Item.{Item}
use Rattle.bm_store.specs.Kept.{logs_in}
use Rattle.bm_lane.specs.declared.relay.Hand.{Hand}
use Rattle.bm_lane.specs.Additions.{Showing}
use Rattle.bm_lane.specs.Copies.{kept_book}
use Rattle.bm_lane.specs.Ends.{Written, IsWritten}
use Rattle.bm_lane.specs.Relay.{hand}
use Rattle.bm_lane.proofs.Kept.{kept_is_book}

-- the writer's end of this lane
abbrev pub end_of : ℕ → ℕ → Hand → Showing → Written
end_of lane viewers h s = record { lane = lane; viewers = viewers; taken = h.taken; shown = s.shown; held = s.held; kept = s.kept }

pub stands : (lane viewers : ℕ) (h : Hand) (s : Showing) → h ≡ hand false true [] (s.shown ++ s.held) → s.kept ≡ kept_book s.shown → length s.held ≤ 1 → IsWritten (end_of lane viewers h s)
stands lane viewers h s is kept few = record { in_order = ap (λ (v : Hand). v.taken) is; few = few; published = ap logs_in kept ∙ kept_is_book s.shown }

-- an item more was taken, and is held
pub took : (h h' : Hand) (s s' : Showing) (x : Item) → h ≡ hand false true [] (s.shown ++ s.held) → s.held ≡ []
    → h' ≡ hand h.puts h.takes h.put (h.taken ++ x ∷ []) → s' ≡ record s { held = x ∷ [] } → h' ≡ hand false true [] (s'.shown ++ s'.held)
took h h' s s' x is none more held =
    more
    ∙ ap (λ (v : Hand). hand v.puts v.takes v.put (v.taken ++ x ∷ [])) is
    ∙ ap (λ (l : List Item). hand false true [] ((s.shown ++ l) ++ x ∷ [])) none
    ∙ ap (λ (l : List Item). hand false true [] (l ++ x ∷ [])) (append-nil s.shown)
    ∙ ap (λ (z : Showing). hand false true [] (z.shown ++ z.held)) (sym held)
