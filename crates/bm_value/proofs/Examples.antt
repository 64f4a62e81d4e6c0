-- Worked rows of the format, computed by the definitions.
use Rattle.std.proofs.Common.{◌≡◌, ℕ, List, [], ◌∷◌, ◌++◌, inl, inr, Ok, refl, lit<, lit≤}
use Rattle.std.specs.Prelude.{pos, negsuc, Some, None}
use Rattle.std.specs.Str.{is_utf8, chars}
use Rattle.std.specs.Char.{encode_utf8}
use Rattle.bm_value.specs.declared.fault.DecodeError.TheVariants.{Truncated, Reserved, BadUtf8, TooDeep}
use Rattle.bm_value.specs.declared.row.Plain.TheVariants as plain
use Rattle.bm_value.specs.declared.row.Size.TheVariants as size
use Rattle.bm_value.specs.declared.row.Wide.TheVariants as wide
use Rattle.bm_value.specs.Row.{row}
use Rattle.bm_value.specs.Tree.{Tree, nil, int, str, bin, array, dict, ext, none, item, no_pairs, pair, depth}
use Rattle.bm_value.specs.Field.{field}
use Rattle.bm_value.specs.Reading.{text_at, binary_at, extension_at, plain_at, items_at, pairs_at, value_at}
use Rattle.bm_value.specs.Spelling.{Spells, Fails}
use Rattle.bm_value.specs.Writing.{written, unsigned, negative, str_head, bin_head, ext_head, array_head, map_head}
use Rattle.bm_value.proofs.Fronts.{fault_at}

-- ---- written forms

written_127 : written (int (pos 127)) ≡ 0x7f ∷ []
unfolding unsigned
written_127 = refl

written_128 : written (int (pos 128)) ≡ 0xcc ∷ 0x80 ∷ []
unfolding unsigned
written_128 = refl

written_255 : written (int (pos 255)) ≡ 0xcc ∷ 0xff ∷ []
unfolding unsigned
written_255 = refl

written_256 : written (int (pos 256)) ≡ 0xcd ∷ 1 ∷ 0 ∷ []
unfolding unsigned
written_256 = refl

written_65535 : written (int (pos 65535)) ≡ 0xcd ∷ 0xff ∷ 0xff ∷ []
unfolding unsigned
written_65535 = refl

written_65536 : written (int (pos 65536)) ≡ 0xce ∷ 0 ∷ 1 ∷ 0 ∷ 0 ∷ []
unfolding unsigned
written_65536 = refl

written_above_32_bits : written (int (pos 0x100000000)) ≡ 0xcf ∷ 0 ∷ 0 ∷ 0 ∷ 1 ∷ 0 ∷ 0 ∷ 0 ∷ 0 ∷ []
unfolding unsigned
written_above_32_bits = refl

written_largest : written (int (pos 0xffffffffffffffff)) ≡ 0xcf ∷ 0xff ∷ 0xff ∷ 0xff ∷ 0xff ∷ 0xff ∷ 0xff ∷ 0xff ∷ 0xff ∷ []
unfolding unsigned
written_largest = refl

-- -1 is negsuc 0
written_minus_1 : written (int (negsuc 0)) ≡ 0xff ∷ []
unfolding negative
written_minus_1 = refl

written_minus_32 : written (int (negsuc 31)) ≡ 0xe0 ∷ []
unfolding negative
written_minus_32 = refl

written_minus_33 : written (int (negsuc 32)) ≡ 0xd0 ∷ 0xdf ∷ []
unfolding negative
written_minus_33 = refl

written_minus_128 : written (int (negsuc 127)) ≡ 0xd0 ∷ 0x80 ∷ []
unfolding negative
written_minus_128 = refl

written_minus_129 : written (int (negsuc 128)) ≡ 0xd1 ∷ 0xff ∷ 0x7f ∷ []
unfolding negative
written_minus_129 = refl

written_minus_32768 : written (int (negsuc 32767)) ≡ 0xd1 ∷ 0x80 ∷ 0 ∷ []
unfolding negative
written_minus_32768 = refl

written_minus_32769 : written (int (negsuc 32768)) ≡ 0xd2 ∷ 0xff ∷ 0xff ∷ 0x7f ∷ 0xff ∷ []
unfolding negative
written_minus_32769 = refl

written_least_of_32_bits : written (int (negsuc 0x7fffffff)) ≡ 0xd2 ∷ 0x80 ∷ 0 ∷ 0 ∷ 0 ∷ []
unfolding negative
written_least_of_32_bits = refl

written_least : written (int (negsuc 0x7fffffffffffffff)) ≡ 0xd3 ∷ 0x80 ∷ 0 ∷ 0 ∷ 0 ∷ 0 ∷ 0 ∷ 0 ∷ 0 ∷ []
unfolding negative
written_least = refl

str_heads : (str_head 31 ≡ 0xbf ∷ []) × (str_head 32 ≡ 0xd9 ∷ 0x20 ∷ []) × (str_head 256 ≡ 0xda ∷ 1 ∷ 0 ∷ [])
unfolding str_head
str_heads = (refl, refl, refl)

array_heads : (array_head 15 ≡ 0x9f ∷ []) × (array_head 16 ≡ 0xdc ∷ 0 ∷ 0x10 ∷ [])
unfolding array_head
array_heads = (refl, refl)

map_heads : (map_head 15 ≡ 0x8f ∷ []) × (map_head 16 ≡ 0xde ∷ 0 ∷ 0x10 ∷ [])
unfolding map_head
map_heads = (refl, refl)

written_empty_bin : written (bin []) ≡ 0xc4 ∷ 0 ∷ []
unfolding bin_head
written_empty_bin = refl

written_ext_of_4 : written (ext (negsuc 0) (1 ∷ 2 ∷ 3 ∷ 4 ∷ [])) ≡ 0xd6 ∷ 0xff ∷ 1 ∷ 2 ∷ 3 ∷ 4 ∷ []
unfolding ext_head
written_ext_of_4 = refl

written_ext_of_3 : written (ext (pos 5) (1 ∷ 2 ∷ 3 ∷ [])) ≡ 0xc7 ∷ 3 ∷ 5 ∷ 1 ∷ 2 ∷ 3 ∷ []
unfolding ext_head
written_ext_of_3 = refl

written_empty_ext : written (ext (pos 5) []) ≡ 0xc7 ∷ 0 ∷ 5 ∷ []
unfolding ext_head
written_empty_ext = refl

-- ---- spellings

-- a longer format of a small number
long_five : Spells (0xcc ∷ 5 ∷ []) (int (pos 5))
unfolding row
long_five = (plain.Unsigned wide.One, refl, (5, record { len = refl; number = refl }, refl))

-- a number of at least 0 in a signed format
signed_256 : Spells (0xd1 ∷ 1 ∷ 0 ∷ []) (int (pos 256))
unfolding row
signed_256 = (plain.Signed wide.Two, refl, (256, record { len = refl; number = refl }, refl))

-- `c4 00` in an array of one
array_of_bin : Spells (0x91 ∷ 0xc4 ∷ 0 ∷ []) (array (item (bin []) none))
unfolding row
array_of_bin = (
  0xc4 ∷ 0 ∷ [],
  record { first = 0x91; size = size.Here 1; head = []; parts = refl; begins = refl; counts = (refl, refl) },
  (0xc4 ∷ 0 ∷ [], [], refl, (plain.Bin (size.Field wide.One), refl, (0 ∷ [], [], refl, record { len = refl; number = refl }, refl)), refl),
)

-- ---- first faults

none_there : Fails [] 0 Truncated
none_there = refl

never_used : Fails (0xc1 ∷ []) 0 Reserved
unfolding row
never_used = refl

no_length : Fails (0xd9 ∷ []) 0 Truncated
unfolding row
no_length = inl (inl (lit< tt), refl)

-- `a2 61`: two bytes are claimed and one is there
short_text : Fails (0xa2 ∷ 0x61 ∷ []) 0 Truncated
unfolding row
short_text = inl (inr ([], 0x61 ∷ [], 2, refl, (refl, refl), lit< tt), refl)

-- `92 c0`: the second item isn't there
short_array : Fails (0x92 ∷ 0xc0 ∷ []) 0 Truncated
unfolding row
short_array = inr ([], 0xc0 ∷ [], [], 2, item nil none, refl, (refl, refl), lit< tt, (0xc0 ∷ [], [], refl, (plain.Nil, refl, (refl, refl)), refl), lit≤ tt, refl)

bad_text : Fails (0xa1 ∷ 0xff ∷ []) 0 BadUtf8
unfolding text_at binary_at extension_at plain_at items_at pairs_at value_at row is_utf8 chars encode_utf8
bad_text = fault_at (0xa1 ∷ 0xff ∷ []) BadUtf8 refl

-- what follows a fault isn't looked at
bad_text_first : Fails (0xa1 ∷ 0xff ∷ 0 ∷ []) 0 BadUtf8
unfolding text_at binary_at extension_at plain_at items_at pairs_at value_at row is_utf8 chars encode_utf8
bad_text_first = fault_at (0xa1 ∷ 0xff ∷ 0 ∷ []) BadUtf8 refl

reserved_inside : Fails (0x91 ∷ 0xc1 ∷ []) 0 Reserved
unfolding text_at binary_at extension_at plain_at items_at pairs_at value_at row
reserved_inside = fault_at (0x91 ∷ 0xc1 ∷ []) Reserved refl

claims_four_billion_items : Fails (0xdd ∷ 0xff ∷ 0xff ∷ 0xff ∷ 0xff ∷ []) 0 Truncated
unfolding text_at binary_at extension_at plain_at items_at pairs_at value_at row
claims_four_billion_items = fault_at (0xdd ∷ 0xff ∷ 0xff ∷ 0xff ∷ 0xff ∷ []) Truncated refl

abbrev nested : List ℕ → List ℕ
nested last =
    (0x91 ∷ 0x91 ∷ 0x91 ∷ 0x91 ∷ 0x91 ∷ 0x91 ∷ 0x91 ∷ 0x91 ∷ []) ++ ((0x91 ∷ 0x91 ∷ 0x91 ∷ 0x91 ∷ 0x91 ∷ 0x91 ∷ 0x91 ∷ 0x91 ∷ [])
    ++ ((0x91 ∷ 0x91 ∷ 0x91 ∷ 0x91 ∷ 0x91 ∷ 0x91 ∷ 0x91 ∷ 0x91 ∷ []) ++ ((0x91 ∷ 0x91 ∷ 0x91 ∷ 0x91 ∷ 0x91 ∷ 0x91 ∷ 0x91 ∷ 0x91 ∷ []) ++ last)))

-- 32 arrays round a container are too many; a reserved byte there is told as such
too_deep : Fails (nested (0x90 ∷ [])) 0 TooDeep
unfolding text_at binary_at extension_at plain_at items_at pairs_at value_at row
too_deep = fault_at (nested (0x90 ∷ [])) TooDeep refl

too_deep_before_its_length : Fails (nested (0xdc ∷ [])) 0 TooDeep
unfolding text_at binary_at extension_at plain_at items_at pairs_at value_at row
too_deep_before_its_length = fault_at (nested (0xdc ∷ [])) TooDeep refl

reserved_at_depth : Fails (nested (0xc1 ∷ [])) 0 Reserved
unfolding text_at binary_at extension_at plain_at items_at pairs_at value_at row
reserved_at_depth = fault_at (nested (0xc1 ∷ [])) Reserved refl

-- ---- depth and fields

depth_of_empty : (depth (array none) ≡ 1) × (depth (dict no_pairs) ≡ 1) × (depth nil ≡ 0)
depth_of_empty = (refl, refl, refl)

-- {"a": 1, "a": 2}
last_counts : field (dict (pair (str (97 ∷ [])) (int (pos 1)) (pair (str (97 ∷ [])) (int (pos 2)) no_pairs))) (97 ∷ []) ≡ Some (int (pos 2))
last_counts = refl

-- a bin of the same bytes is no such key
bin_is_no_key : field (dict (pair (bin (97 ∷ [])) nil no_pairs)) (97 ∷ []) ≡ None
bin_is_no_key = refl

array_has_no_fields : field (array (item (str (97 ∷ [])) none)) (97 ∷ []) ≡ None
array_has_no_fields = refl

-- ---- the message `update` 0 of command 0, `stdout` with the text `a\n`

abbrev update : Tree
update = dict (pair (str (115 ∷ 101 ∷ 113 ∷ 95 ∷ 110 ∷ 117 ∷ 109 ∷ 98 ∷ 101 ∷ 114 ∷ [])) (int (pos 0)) (pair (str (111 ∷ 112 ∷ [])) (str (117 ∷ 112 ∷ 100 ∷ 97 ∷ 116 ∷ 101 ∷ [])) (pair (str (99 ∷ 111 ∷ 109 ∷ 109 ∷ 97 ∷ 110 ∷ 100 ∷ 95 ∷ 105 ∷ 100 ∷ [])) (str (48 ∷ [])) (pair (str (97 ∷ 114 ∷ 103 ∷ 115 ∷ [])) (array (item (array (item (str (115 ∷ 116 ∷ 100 ∷ 111 ∷ 117 ∷ 116 ∷ [])) (item (str (97 ∷ 10 ∷ [])) none))) none)) no_pairs))))

abbrev update_bytes : List ℕ
update_bytes = 132 ∷ 170 ∷ 115 ∷ 101 ∷ 113 ∷ 95 ∷ 110 ∷ 117 ∷ 109 ∷ 98 ∷ 101 ∷ 114 ∷ 0 ∷ 162 ∷ 111 ∷ 112 ∷ 166 ∷ 117 ∷ 112 ∷ 100 ∷ 97 ∷ 116 ∷ 101 ∷ 170 ∷ 99 ∷ 111 ∷ 109 ∷ 109 ∷ 97 ∷ 110 ∷ 100 ∷ 95 ∷ 105 ∷ 100 ∷ 161 ∷ 48 ∷ 164 ∷ 97 ∷ 114 ∷ 103 ∷ 115 ∷ 145 ∷ 146 ∷ 166 ∷ 115 ∷ 116 ∷ 100 ∷ 111 ∷ 117 ∷ 116 ∷ 162 ∷ 97 ∷ 10 ∷ []

update_read : value_at 32 update_bytes ≡ Ok (update, [])
unfolding text_at binary_at extension_at plain_at items_at pairs_at value_at row is_utf8 chars encode_utf8
update_read = refl

update_written : written update ≡ update_bytes
unfolding unsigned str_head array_head map_head
update_written = refl
