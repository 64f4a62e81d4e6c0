-- The items of a trace with an event more.
use Rattle.std.proofs.Common.{◌≡◌, [], ◌∷◌, ◌++◌, Some, None, ap, ◌∙◌}
use Rattle.std.proofs.lemmas.List.{append-nil}
use Rattle.bm_session.specs.declared.event.Event.{Event}
use Rattle.bm_session.specs.declared.item.Item.{Item}
use Rattle.bm_session.specs.Trace.{Trace, item, items}
use Rattle.bm_session.proofs.Pushed.{items-push}
use Rattle.std.specs.List.{cons_option}

-- an event that gives an item adds it
pub one_item : (t u : Trace) (e : Event) (x : Item) → u ≡ t ++ e ∷ [] → item t e ≡ Some x → items u ≡ items t ++ x ∷ []
one_item t u e x is gives = ap items is ∙ items-push t e ∙ ap (λ o. items t ++ cons_option o []) gives

-- another adds none
pub no_item : (t u : Trace) (e : Event) → u ≡ t ++ e ∷ [] → item t e ≡ None → items u ≡ items t
no_item t u e is gives = ap items is ∙ items-push t e ∙ ap (λ o. items t ++ cons_option o []) gives ∙ append-nil (items t)
