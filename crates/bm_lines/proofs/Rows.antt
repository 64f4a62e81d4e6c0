-- Worked examples, which compute.
use Rattle.std.specs.Prelude.{◌≡◌, refl, List, [], ◌∷◌, codes, Some, None}
use Rattle.bm_lines.specs.declared.letter.Letter.TheVariants.{O, E, H}
use Rattle.bm_lines.specs.declared.line_batch.LogLines.{LogLines}
use Rattle.bm_lines.specs.Names.{stdio}
use Rattle.bm_lines.specs.Lines.{lines_of, content_of}
use Rattle.bm_lines.specs.LineBatches.{with_item, blocks_under, block_under}

-- "x\n\ny" is cut into three lines, the second of them empty
empty_line_is_kept : lines_of E (120 ∷ 10 ∷ 10 ∷ 121 ∷ []) ≡ record { letter = E; text = codes "x" } ∷ record { letter = E; text = [] } ∷ record { letter = E; text = codes "y" } ∷ []
empty_line_is_kept = refl

lines_are_told_by_letter : content_of (lines_of E (120 ∷ 10 ∷ 10 ∷ 121 ∷ [])) ≡ 101 ∷ 120 ∷ 10 ∷ 101 ∷ 10 ∷ 101 ∷ 121 ∷ 10 ∷ []
lines_are_told_by_letter = refl

empty_text_has_no_line : lines_of O [] ≡ []
empty_text_has_no_line = refl

line_end_alone_is_an_empty_line : lines_of O (10 ∷ []) ≡ record { letter = O; text = [] } ∷ []
line_end_alone_is_an_empty_line = refl

-- standard output "a\nb", header "h\n" and an empty standard error, all in one log
items_join_in_order : with_item stdio (lines_of E []) (with_item stdio (lines_of H (104 ∷ 10 ∷ [])) (with_item stdio (lines_of O (97 ∷ 10 ∷ 98 ∷ [])) []))
    ≡ record { name = stdio; block = record { letter = O; text = codes "a" } ∷ record { letter = O; text = codes "b" } ∷ record { letter = H; text = codes "h" } ∷ [] } ∷ []
items_join_in_order = refl

-- standard output "a\n", an item of the log stdio "s\n", standard error "b\n", and an item of the
-- log l without a line
abbrev four_items : List LogLines
four_items = with_item (codes "l") [] (with_item stdio (lines_of E (98 ∷ 10 ∷ [])) (with_item stdio (lines_of O (115 ∷ 10 ∷ [])) (with_item stdio (lines_of O (97 ∷ 10 ∷ [])) [])))

named_item_joins_standard_output : blocks_under stdio four_items ≡ (record { letter = O; text = codes "a" } ∷ record { letter = O; text = codes "s" } ∷ record { letter = E; text = codes "b" } ∷ []) ∷ []
named_item_joins_standard_output = refl

item_without_line_has_its_part : block_under (codes "l") four_items ≡ Some []
item_without_line_has_its_part = refl

other_name_has_no_part : block_under (codes "m") four_items ≡ None
other_name_has_no_part = refl
