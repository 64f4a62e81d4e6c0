-- Short texts are short enough to be written, and what they are written into fits into a frame.
use Rattle.std.proofs.Common.{◌≡◌, refl, ap, ℕ, zero, suc, pos, ◌+◌, ◌*◌, ◌≤◌, ◌^◌, ◌/◌, ◌%◌, Bool, true, false, cond, nat_lt, if◌then◌else◌, List, [], ◌∷◌, ◌++◌, length, map, sum_by, codes, Some, None, arith, length-append, lit<, le_trans}
use Rattle.std.proofs.lemmas.List.Sums.{sum_by-cons}
use Rattle.std.specs.Prelude.{◌==◌}
use Rattle.std.specs.Fmt.{decimal, digits, digits_onto, digit_glyph}
use Rattle.bm_value.specs.Tree.{Tree, str, int, array, dict, Pairs, pair, no_pairs, count, count_of_pairs, depth, depth_of_items}
use Rattle.bm_value.specs.View.{trees_of}
use Rattle.bm_value.specs.Limits.{IsShort, AreShort as AreShortTrees}
use Rattle.bm_value.specs.Writing.{unsigned, str_head, array_head, map_head, written, written_items, written_pairs}
use Rattle.bm_link.specs.declared.asks.Ask.TheVariants as ask
use Rattle.bm_link.specs.Asks.{ask_bytes}
use Rattle.bm_link.specs.Greeting.{auth_bytes}
use Rattle.bm_link.specs.LawsOfTexts.{OrdersFit, AsksFit, LoginsFit}
use Rattle.bm_link.specs.Orders.{args_of, start_bytes, interrupt_bytes}
use Rattle.bm_link.specs.Texts.{AreShort}

-- the head of a text, an array or a map, and a number

either : (m : ℕ) (a : Bool) (x y : List ℕ) → length x ≤ m → length y ≤ m → length (if a then x else y) ≤ m
either m true x y p q = p
either m false x y p q = q

text_head : (n : ℕ) → length (str_head n) ≤ 5
unfolding str_head
text_head n = either 5 (nat_lt n 32) _ _ (omega arith) (either 5 (nat_lt n (2 ^ 8)) _ _ (omega arith) (either 5 (nat_lt n (2 ^ 16)) _ _ (omega arith) (omega arith)))

items_head : (n : ℕ) → length (array_head n) ≤ 5
unfolding array_head
items_head n = either 5 (nat_lt n 16) _ _ (omega arith) (either 5 (nat_lt n (2 ^ 16)) _ _ (omega arith) (omega arith))

pairs_head : (n : ℕ) → length (map_head n) ≤ 5
unfolding map_head
pairs_head n = either 5 (nat_lt n 16) _ _ (omega arith) (either 5 (nat_lt n (2 ^ 16)) _ _ (omega arith) (omega arith))

number_size : (n : ℕ) → length (unsigned n) ≤ 9
unfolding unsigned
number_size n = either 9 (nat_lt n 0x80) _ _ (omega arith) (either 9 (nat_lt n (2 ^ 8)) _ _ (omega arith) (either 9 (nat_lt n (2 ^ 16)) _ _ (omega arith) (either 9 (nat_lt n (2 ^ 32)) _ _ (omega arith) (omega arith))))

-- a numeral has at most 64 digits
onto_size : (k n : ℕ) (upper : Bool) (acc : List ℕ) → length (digits_onto k 10 upper n acc) ≤ k + length acc
onto_size zero n upper acc = omega arith
onto_size (suc k) n upper acc = go (n / 10 == 0) (onto_size k (n / 10) upper (digit_glyph upper (n % 10) ∷ acc))
  where
    go : (b : Bool) → length (digits_onto k 10 upper (n / 10) (digit_glyph upper (n % 10) ∷ acc)) ≤ k + length (digit_glyph upper (n % 10) ∷ acc)
        → length (cond b (digit_glyph upper (n % 10) ∷ acc) (digits_onto k 10 upper (n / 10) (digit_glyph upper (n % 10) ∷ acc))) ≤ suc k + length acc
    go true h = omega arith
    go false h = omega arith

numeral_size : (n : ℕ) → length (decimal n) ≤ 64
unfolding digits
numeral_size n = omega (arith, onto_size 64 n false [])

-- texts, and arrays of them

joined : (a b : List ℕ) (m n : ℕ) → length a ≤ m → length b ≤ n → length (a ++ b) ≤ m + n
joined a b m n p q = omega (arith, length-append a b, p, q)

text_size : (s : List ℕ) (n : ℕ) → length s ≤ n → length (written (str s)) ≤ 5 + n
text_size s n h = joined (str_head (length s)) s 5 n (text_head (length s)) h

texts_size : (ts : List (List ℕ)) → length (written_items (trees_of (map str ts))) ≤ 5 * length ts + sum_by length ts
texts_size [] = omega arith
texts_size (t ∷ ts) = omega (arith, sum_by-cons length t ts, joined (written (str t)) (written_items (trees_of (map str ts))) _ _ (text_size t (length t) (omega arith)) (texts_size ts))

array_size : (ts : List (List ℕ)) → AreShort ts → length (written (array (trees_of (map str ts)))) ≤ 950005
array_size ts h = omega (arith, h.0, h.1, joined (array_head (count (trees_of (map str ts)))) (written_items (trees_of (map str ts))) _ _ (items_head (count (trees_of (map str ts)))) (texts_size ts))

-- the words of a start are short enough to be written

words_short : (ts : List (List ℕ)) → sum_by length ts ≤ 900000 → AreShortTrees (trees_of (map str ts))
words_short [] h = tt
words_short (t ∷ ts) h = (omega (arith, h, sum_by-cons length t ts), words_short ts (omega (arith, h, sum_by-cons length t ts)))

count_words : (ts : List (List ℕ)) → count (trees_of (map str ts)) ≡ length ts
count_words [] = refl
count_words (t ∷ ts) = ap suc (count_words ts)

words_flat : (ts : List (List ℕ)) → depth_of_items (trees_of (map str ts)) ≡ 0
words_flat [] = refl
words_flat (t ∷ ts) = omega (arith, words_flat ts)

pub args_short : (argv : List (List ℕ)) → AreShort argv → IsShort (args_of argv)
args_short argv h = (lit< tt, (lit< tt, (omega (arith, h.0, count_words argv), words_short argv h.1), tt))

pub args_flat : (argv : List (List ℕ)) → depth (args_of argv) ≤ 31
args_flat argv = omega (arith, words_flat argv)

-- how many bytes a tree takes, and the pairs of a map, whose keys have at most 20 bytes

record Takes (t : Tree) (n : ℕ) : Type 0 where
  takes : length (written t) ≤ n

record PairsTake (ps : Pairs) (n : ℕ) : Type 0 where
  takes : length (written_pairs ps) ≤ n

no_more : PairsTake no_pairs 0
no_more = record { takes = omega arith }

of_text : (s : List ℕ) (n : ℕ) → length s ≤ n → Takes (str s) (5 + n)
of_text s n h = record { takes = text_size s n h }

of_number : (n : ℕ) → Takes (int (pos n)) 9
of_number n = record { takes = number_size n }

of_pair : {v : Tree} {ps : Pairs} {m n : ℕ} (key : List ℕ) → length key ≤ 20 → Takes v m → PairsTake ps n → PairsTake (pair (str key) v ps) (25 + (m + n))
of_pair {v} {ps} {m} {n} key k p q = record {
  takes = joined (written (str key)) (written v ++ written_pairs ps) 25 (m + n) (text_size key 20 k) (joined (written v) (written_pairs ps) m n p.takes q.takes);
}

of_map : {ps : Pairs} {n : ℕ} → PairsTake ps n → Takes (dict ps) (5 + n)
of_map {ps} {n} h = record { takes = joined (map_head (count_of_pairs ps)) (written_pairs ps) 5 n (pairs_head (count_of_pairs ps)) h.takes }

fits : {t : Tree} {n : ℕ} → Takes t n → n ≤ 1048576 → length (written t) ≤ 1048576
fits h le = le_trans h.takes le

-- a message with its number and its operation
of_message : {ps : Pairs} {m : ℕ} (n : ℕ) (op : List ℕ) → length op ≤ 20 → PairsTake ps m
    → Takes (dict (pair (str (codes "seq_number")) (int (pos n)) (pair (str (codes "op")) (str op) ps))) (5 + (25 + (9 + (25 + (25 + m)))))
of_message n op short h = of_map (of_pair (codes "seq_number") (omega arith) (of_number n) (of_pair (codes "op") (omega arith) (of_text op 20 short) h))

of_args : (argv : List (List ℕ)) → AreShort argv → Takes (args_of argv) 950035
of_args argv h = of_map (of_pair (codes "command") (omega arith) (record { takes = array_size argv h }) no_more)

starts_fit : (n k : ℕ) (argv : List (List ℕ)) → AreShort argv → length (start_bytes n k argv) ≤ 1048576
unfolding start_bytes
starts_fit n k argv h =
    fits (of_message n (codes "start_command") (omega arith)
    (of_pair (codes "command_id") (omega arith) (of_text (decimal k) 64 (numeral_size k))
    (of_pair (codes "command_name") (omega arith) (of_text (codes "shell") 20 (omega arith))
    (of_pair (codes "args") (omega arith) (of_args argv h) no_more)))) (omega arith)

interrupts_fit : (n k : ℕ) → length (interrupt_bytes n k) ≤ 1048576
unfolding interrupt_bytes
interrupts_fit n k =
    fits (of_message n (codes "interrupt_command") (omega arith)
    (of_pair (codes "command_id") (omega arith) (of_text (decimal k) 64 (numeral_size k))
    (of_pair (codes "why") (omega arith) (of_text (codes "stop") 20 (omega arith)) no_more))) (omega arith)

pub orders_fit : OrdersFit
orders_fit = (starts_fit, interrupts_fit)

pub asks_fit : AsksFit
unfolding ask_bytes
asks_fit n (ask.Print message) h =
    fits (of_message n (codes "print") (omega arith)
    (of_pair (codes "message") (omega arith) (of_text message 900000 (omega (arith, h.1, sum_by-cons length message []))) no_more)) (omega arith)
asks_fit n ask.Keepalive h = fits (of_message n (codes "keepalive") (omega arith) no_more) (omega arith)
asks_fit n ask.GetWorkerInfo h = fits (of_message n (codes "get_worker_info") (omega arith) no_more) (omega arith)
asks_fit n ask.Shutdown h = fits (of_message n (codes "shutdown") (omega arith) no_more) (omega arith)

-- a name and a password that are short are each as short
name_size : (name password : List ℕ) → AreShort (name ∷ password ∷ []) → length name + length password ≤ 900000
name_size name password h = omega (arith, h.1, sum_by-cons length name (password ∷ []), sum_by-cons length password [])

pub logins_fit : LoginsFit
unfolding auth_bytes
logins_fit name password None None h short brief =
    fits (of_message 0 (codes "auth") (omega arith)
    (of_pair (codes "username") (omega arith) (of_text name (length name) (omega arith))
    (of_pair (codes "password") (omega arith) (of_text password (length password) (omega arith)) no_more)))
    (omega (arith, name_size name password h))
logins_fit name password (Some session) None h short brief =
    fits (of_message 0 (codes "auth") (omega arith)
    (of_pair (codes "username") (omega arith) (of_text name (length name) (omega arith))
    (of_pair (codes "password") (omega arith) (of_text password (length password) (omega arith))
    (of_pair (codes "session") (omega arith) (of_text session 64 short) no_more))))
    (omega (arith, name_size name password h))
logins_fit name password None (Some next) h short brief =
    fits (of_message 0 (codes "auth") (omega arith)
    (of_pair (codes "username") (omega arith) (of_text name (length name) (omega arith))
    (of_pair (codes "password") (omega arith) (of_text password (length password) (omega arith))
    (of_pair (codes "next_session") (omega arith) (of_text next 64 brief) no_more))))
    (omega (arith, name_size name password h))
logins_fit name password (Some session) (Some next) h short brief =
    fits (of_message 0 (codes "auth") (omega arith)
    (of_pair (codes "username") (omega arith) (of_text name (length name) (omega arith))
    (of_pair (codes "password") (omega arith) (of_text password (length password) (omega arith))
    (of_pair (codes "session") (omega arith) (of_text session 64 short)
    (of_pair (codes "next_session") (omega arith) (of_text next 64 brief) no_more)))))
    (omega (arith, name_size name password h))
