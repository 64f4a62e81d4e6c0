use Rattle.std.proofs.Common.{◌≡◌, sym, ◌∙◌, ap, subst, ◌+◌, ◌∷◌, [], drop, append-nil, map, IsSome, Some, Vec, Global}
use Rattle.bm_msg.specs.declared.field.Field.{Field}
use Rattle.bm_value.specs.View.{tree, trees_of}
use Rattle.bm_msg.specs.Items.{item_fields, fields_of}
use Rattle.bm_msg.specs.Reading.{carries}
use Rattle.bm_msg.proofs.FieldLists.{with_rest, with_rest-more, some_here}
use Rattle.bm_msg.proofs.items.own_all.Goals.{in-Some+in_ok-push, in_default}
use Rattle.bm_msg.proofs.items.own_all.Goals as goal

pub own-requires : goal.own-requires
own-requires g c =
    subst IsSome (sym c.seen_in.ensures) (some_here (fields_of (trees_of (map tree c.args.parts.now))) c.loop-part.fields.items c.args.parts.now c.loop-part.part-index c.part-item.result c.loop-part-test.true c.part-item.is c.requires c.loop-part.invariant)

pub loop-part-preserved : goal.loop-part-preserved
loop-part-preserved g c =
    elim c.match-branch-3.branch [
      | in-Some+in_ok-push w ↦
          (let carries : item_fields (tree c.part-item.result) ≡ Some (w.in-Some.field ∷ []) = sym c.seen_in.ensures ∙ sym c.in_ok-field.ensures ∙ ap carries w.in-Some.is in
          with_rest-more (fields_of (trees_of (map tree c.args.parts.now))) c.loop-part.fields.items _ c.args.parts.now c.loop-part.part-index c.part-item.result c.loop-part-test.true c.part-item.is carries c.loop-part.invariant
          ∙ ap (λ fs. with_rest fs (drop (c.loop-part.part-index + 1) c.args.parts.now)) (sym w.in_ok-push.ensures.items)
          ∙ ap (λ (v : Vec Field Global). with_rest v.items (drop (c.loop-part.part-index + 1) c.args.parts.now)) (sym w.fields-is))
      | in_default w ↦
          (let carries : item_fields (tree c.part-item.result) ≡ Some [] = sym c.seen_in.ensures ∙ sym c.in_ok-field.ensures ∙ ap carries w.in_default.is in
          with_rest-more (fields_of (trees_of (map tree c.args.parts.now))) c.loop-part.fields.items [] c.args.parts.now c.loop-part.part-index c.part-item.result c.loop-part-test.true c.part-item.is carries c.loop-part.invariant
          ∙ ap (λ fs. with_rest fs (drop (c.loop-part.part-index + 1) c.args.parts.now)) (append-nil c.loop-part.fields.items)
          ∙ ap (λ (v : Vec Field Global). with_rest v.items (drop (c.loop-part.part-index + 1) c.args.parts.now)) (sym w.fields-is))
    ]
