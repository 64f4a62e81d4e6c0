-- Worked examples, which compute.
use Rattle.std.specs.Prelude.{◌≡◌, refl, pos, [], ◌∷◌, codes, Some, None}
use Rattle.std.proofs.Common.{lit<, ap, sym}
use Rattle.std.proofs.lemmas.Fmt.{decimal_digit}
use Rattle.bm_value.specs.Tree.{Tree, nil, int, bits64, str, array, dict, none, item, no_pairs, pair}
use Rattle.bm_lines.specs.declared.letter.Letter.TheVariants.{O, E, H}
use Rattle.bm_lines.specs.Names.{stdio}
use Rattle.bm_msg.specs.declared.field.Field.TheVariants.{Text, Named, Rc}
use Rattle.bm_msg.specs.Items.{item_fields}
use Rattle.bm_msg.specs.Meaning.{update, request}
use Rattle.bm_msg.specs.Messages.{IsMessage}
use Rattle.bm_msg.specs.Carried.{carried, last_rc}

abbrev two : Tree → Tree → Tree
two a b = array (item a (item b none))

abbrev named_item : Tree → Tree
named_item value = two (str (codes "log")) value

-- update 0 of command 0, standard output "a\n"
abbrev update_zero : Tree
update_zero = dict (pair (str (codes "seq_number")) (int (pos 0)) (pair (str (codes "op")) (str (codes "update"))
    (pair (str (codes "command_id")) (str (codes "0"))
    (pair (str (codes "args")) (array (item (two (str (codes "stdout")) (str (97 ∷ 10 ∷ []))) none)) no_pairs))))

update_is_read : IsMessage update_zero (request 0 (update 0 (Text O (97 ∷ 10 ∷ []) ∷ [])))
update_is_read = ((refl, lit< tt), (refl, (ap (λ s. Some (str s)) (sym (decimal_digit 0 (lit< tt))), lit< tt), (item (two (str (codes "stdout")) (str (97 ∷ 10 ∷ []))) none, refl, refl)))

-- a list with line ends and a float's bits: the list's first item counts
abbrev list_with_line_ends : Tree
list_with_line_ends = array (item (two (str (codes "stdout"))
    (array (item (str (120 ∷ 10 ∷ [])) (item (array (item (int (pos 1)) none)) (item (array (item (bits64 0x3ff0000000000000) none)) none))))) none)

first_of_the_list_counts : item_fields (array (item (str (codes "stdout")) (item (array (item (str (120 ∷ 10 ∷ [])) (item nil none))) none))) ≡ Some (Text O (120 ∷ 10 ∷ []) ∷ [])
first_of_the_list_counts = refl

empty_list_is_no_text : item_fields (two (str (codes "stdout")) (array none)) ≡ None
empty_list_is_no_text = refl

item_of_three_is_none : item_fields (array (item (str (codes "stdout")) (item (str []) (item nil none)))) ≡ None
item_of_three_is_none = refl

other_names_carry_nothing : item_fields (two (str (codes "elapsed")) (bits64 0)) ≡ Some []
other_names_carry_nothing = refl

exit_code_of_another_kind_is_passed_over : item_fields (two (str (codes "rc")) nil) ≡ Some []
exit_code_of_another_kind_is_passed_over = refl

nameless_log_is_refused : item_fields (named_item (two (str []) (str (codes "x")))) ≡ None
nameless_log_is_refused = refl

log_without_text_is_refused : item_fields (named_item (array (item (str (codes "l")) none))) ≡ None
log_without_text_is_refused = refl

-- standard output "a\n", an item of the log stdio "s\n", standard error "b\n", and an item of the
-- log l without a line
fields_join_by_name : carried (Text O (97 ∷ 10 ∷ []) ∷ Named stdio (115 ∷ 10 ∷ []) ∷ Text E (98 ∷ 10 ∷ []) ∷ Named (codes "l") [] ∷ Rc (pos 3) ∷ [])
    ≡ record { name = stdio; block = record { letter = O; text = codes "a" } ∷ record { letter = O; text = codes "s" } ∷ record { letter = E; text = codes "b" } ∷ [] }
    ∷ record { name = codes "l"; block = [] } ∷ []
fields_join_by_name = refl

last_exit_code_counts : last_rc (Rc (pos 3) ∷ Text H [] ∷ Rc (pos 0) ∷ []) ≡ Some (pos 0)
last_exit_code_counts = refl
