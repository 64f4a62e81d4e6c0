-- Which messages can be written, by their parts.
use Rattle.std.proofs.Common.{◌≡◌, refl, ap, ℕ, zero, suc, ◌+◌, ◌<◌, ◌≤◌, ◌^◌, ◌/◌, ◌%◌, Bool, true, false, cond, List, [], ◌∷◌, length, map, Option, Some, None, arith, lit<}
use Rattle.std.specs.Prelude.{◌==◌}
use Rattle.std.specs.Fmt.{decimal, digits, digits_onto, digit_glyph}
use Rattle.bm_value.specs.Tree.{depth, depth_of_items, count}
use Rattle.bm_value.specs.View.{trees_of}
use Rattle.bm_value.specs.Limits.{IsShort, AreShort}
use Rattle.bm_lines.specs.declared.letter.Letter.{Letter}
use Rattle.bm_lines.specs.declared.letter.Letter.TheVariants.{O, E, H}
use Rattle.bm_msg.specs.declared.field.Field.{Field}
use Rattle.bm_msg.specs.declared.field.Field.TheVariants.{Text, Named, Rc}
use Rattle.bm_msg.specs.Meaning.{Asked, auth, print, keepalive, get_worker_info, start_command, interrupt_command, shutdown, update, complete, unknown, Meaning, request, response}
use Rattle.bm_msg.specs.Limits.{args_depth, parts_depth, IsShortField, AreShortFields, IsShortOption, IsShortRequest, HasShortParts}
use Rattle.bm_msg.specs.Trees.{item_of, stream_of, fault_tree, tree_of}

-- ---- depth

item_depth : (f : Field) → depth (item_of f) ≤ 2
item_depth (Text letter text) = omega arith
item_depth (Named name text) = omega arith
item_depth (Rc z) = omega arith

items_depth : (fs : List Field) → depth_of_items (trees_of (map item_of fs)) ≤ 2
items_depth [] = omega arith
items_depth (f ∷ fs) = omega (arith, item_depth f, items_depth fs)

fault_depth : (f : Option (List ℕ)) → depth (fault_tree f) ≡ 0
fault_depth None = refl
fault_depth (Some s) = refl

request_nests : (n : ℕ) (a : Asked) → args_depth a ≤ 31 → depth (tree_of (request n a)) ≤ 32
request_nests n (auth u p None) h = omega arith
request_nests n (auth u p (Some s)) h = omega arith
request_nests n (print m) h = omega arith
request_nests n keepalive h = omega arith
request_nests n get_worker_info h = omega arith
request_nests n shutdown h = omega arith
request_nests n (start_command k name args) h = omega arith
request_nests n (interrupt_command k why) h = omega arith
request_nests n (update k fs) h = omega (arith, items_depth fs)
request_nests n (complete k f) h = omega (arith, fault_depth f)
request_nests n (unknown op) h = omega arith

request_nested : (n : ℕ) (a : Asked) → depth (tree_of (request n a)) ≤ 32 → args_depth a ≤ 31
request_nested n (start_command k name args) h = omega arith
request_nested n (auth u p s) h = omega arith
request_nested n (print m) h = omega arith
request_nested n keepalive h = omega arith
request_nested n get_worker_info h = omega arith
request_nested n shutdown h = omega arith
request_nested n (interrupt_command k why) h = omega arith
request_nested n (update k fs) h = omega arith
request_nested n (complete k f) h = omega arith
request_nested n (unknown op) h = omega arith

pub nests : (m : Meaning) → parts_depth m ≤ 31 → depth (tree_of m) ≤ 32
nests (request n a) h = request_nests n a h
nests (response n t true) h = omega arith
nests (response n t false) h = omega arith

pub nested : (m : Meaning) → depth (tree_of m) ≤ 32 → parts_depth m ≤ 31
nested (request n a) h = request_nested n a h
nested (response n t true) h = omega arith
nested (response n t false) h = omega arith

-- ---- lengths

onto_short : (k n : ℕ) (upper : Bool) (acc : List ℕ) → length (digits_onto k 10 upper n acc) ≤ k + length acc
onto_short zero n upper acc = omega arith
onto_short (suc k) n upper acc = go (n / 10 == 0) (onto_short k (n / 10) upper (digit_glyph upper (n % 10) ∷ acc))
  where
    go : (b : Bool) → length (digits_onto k 10 upper (n / 10) (digit_glyph upper (n % 10) ∷ acc)) ≤ k + length (digit_glyph upper (n % 10) ∷ acc)
        → length (cond b (digit_glyph upper (n % 10) ∷ acc) (digits_onto k 10 upper (n / 10) (digit_glyph upper (n % 10) ∷ acc))) ≤ suc k + length acc
    go true h = omega arith
    go false h = omega arith

-- a numeral has at most 64 digits
decimal_short : (n : ℕ) → length (decimal n) < 2 ^ 32
unfolding digits
decimal_short n = omega (arith, onto_short 64 n false [])

stream_short : (letter : Letter) → length (stream_of letter) < 2 ^ 32
stream_short O = lit< tt
stream_short E = lit< tt
stream_short H = lit< tt

item_short : (f : Field) → IsShortField f → IsShort (item_of f)
item_short (Text letter text) h = (lit< tt, (stream_short letter, (h, tt)))
item_short (Named name text) h = (lit< tt, (lit< tt, ((lit< tt, (h.0, (h.1, tt))), tt)))
item_short (Rc z) h = (lit< tt, (lit< tt, (tt, tt)))

short_item : (f : Field) → IsShort (item_of f) → IsShortField f
short_item (Text letter text) h = h.1.1.0
short_item (Named name text) h = (h.1.1.0.1.0, h.1.1.0.1.1.0)
short_item (Rc z) h = tt

items_short : (fs : List Field) → AreShortFields fs → AreShort (trees_of (map item_of fs))
items_short [] h = tt
items_short (f ∷ fs) h = (item_short f h.0, items_short fs h.1)

short_items : (fs : List Field) → AreShort (trees_of (map item_of fs)) → AreShortFields fs
short_items [] h = tt
short_items (f ∷ fs) h = (short_item f h.0, short_items fs h.1)

count_items : (fs : List Field) → count (trees_of (map item_of fs)) ≡ length fs
count_items [] = refl
count_items (f ∷ fs) = ap suc (count_items fs)

fault_short : (f : Option (List ℕ)) → IsShortOption f → IsShort (fault_tree f)
fault_short None h = tt
fault_short (Some s) h = h

short_fault : (f : Option (List ℕ)) → IsShort (fault_tree f) → IsShortOption f
short_fault None h = tt
short_fault (Some s) h = h

pub request_short : (n : ℕ) (a : Asked) → IsShortRequest a → IsShort (tree_of (request n a))
request_short n (auth u p None) h = (lit< tt, (lit< tt, tt, (lit< tt, lit< tt, (lit< tt, h.0, (lit< tt, h.1, tt)))))
request_short n (auth u p (Some s)) h = (lit< tt, (lit< tt, tt, (lit< tt, lit< tt, (lit< tt, h.0, (lit< tt, h.1, (lit< tt, h.2, tt))))))
request_short n (print m) h = (lit< tt, (lit< tt, tt, (lit< tt, lit< tt, (lit< tt, h, tt))))
request_short n keepalive h = (lit< tt, (lit< tt, tt, (lit< tt, lit< tt, tt)))
request_short n get_worker_info h = (lit< tt, (lit< tt, tt, (lit< tt, lit< tt, tt)))
request_short n shutdown h = (lit< tt, (lit< tt, tt, (lit< tt, lit< tt, tt)))
request_short n (start_command k name args) h = (lit< tt, (lit< tt, tt, (lit< tt, lit< tt, (lit< tt, decimal_short k, (lit< tt, h.0, (lit< tt, h.1, tt))))))
request_short n (interrupt_command k why) h = (lit< tt, (lit< tt, tt, (lit< tt, lit< tt, (lit< tt, decimal_short k, (lit< tt, h, tt)))))
request_short n (update k fs) h =
    let few : count (trees_of (map item_of fs)) < 2 ^ 32 = omega (arith, count_items fs, h.0) in
    (lit< tt, (lit< tt, tt, (lit< tt, lit< tt, (lit< tt, decimal_short k, (lit< tt, (few, items_short fs h.1), tt)))))
request_short n (complete k f) h = (lit< tt, (lit< tt, tt, (lit< tt, lit< tt, (lit< tt, decimal_short k, (lit< tt, fault_short f h, tt)))))
request_short n (unknown op) h = (lit< tt, (lit< tt, tt, (lit< tt, h, tt)))

short_request : (n : ℕ) (a : Asked) → IsShort (tree_of (request n a)) → IsShortRequest a
short_request n (auth u p None) h = (h.1.2.2.1, h.1.2.2.2.1, tt)
short_request n (auth u p (Some s)) h = (h.1.2.2.1, h.1.2.2.2.1, h.1.2.2.2.2.1)
short_request n (print m) h = h.1.2.2.1
short_request n keepalive h = tt
short_request n get_worker_info h = tt
short_request n shutdown h = tt
short_request n (start_command k name args) h = (h.1.2.2.2.1, h.1.2.2.2.2.1)
short_request n (interrupt_command k why) h = h.1.2.2.2.1
short_request n (update k fs) h =
    let args = h.1.2.2.2.1 in
    (omega (arith, count_items fs, args.0), short_items fs args.1)
short_request n (complete k f) h = short_fault f h.1.2.2.2.1
short_request n (unknown op) h = h.1.2.1

pub short : (m : Meaning) → HasShortParts m → IsShort (tree_of m)
short (request n a) h = request_short n a h
short (response n t true) h = (lit< tt, (lit< tt, tt, (lit< tt, lit< tt, (lit< tt, h, (lit< tt, tt, tt)))))
short (response n t false) h = (lit< tt, (lit< tt, tt, (lit< tt, lit< tt, (lit< tt, h, tt))))

pub short_parts : (m : Meaning) → IsShort (tree_of m) → HasShortParts m
short_parts (request n a) h = short_request n a h
short_parts (response n t true) h = h.1.2.2.1
short_parts (response n t false) h = h.1.2.2.1
