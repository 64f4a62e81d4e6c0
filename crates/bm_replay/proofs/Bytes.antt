-- The bytes of a request, decoded and read, are that request.
use Rattle.std.proofs.Common.{◌≡◌, refl, ap, subst, true, zero, suc, ℕ, ◌<◌, ◌≤◌, ◌^◌, List, [], ◌∷◌, length, Some, None, arith, lit<, lit≤}
use Rattle.std.specs.Prelude.{codes, nat_lt}
use Rattle.std.specs.List.{list_all}
use Rattle.std.specs.Fmt.{decimal}
use Rattle.std.specs.Str.{IsUtf8, IsAscii}
use Rattle.std.proofs.lemmas.Fmt.{IsAscii-decimal}
use Rattle.std.proofs.lemmas.Str.{IsUtf8-from_ascii}
use Rattle.std.proofs.lemmas.Str.Ascii.{IsAscii-nil}
use Rattle.std.proofs.lemmas.Bool.Decides.{nat_tests}
use Rattle.bm_session.proofs.Taken.{and-left, and-right}
use Rattle.bm_lines.specs.declared.letter.Letter.{Letter}
use Rattle.bm_lines.specs.declared.letter.Letter.TheVariants.{O, E, H}
use Rattle.bm_value.specs.Limits.{IsWellFormed}
use Rattle.bm_value.specs.Spelling.{Spells}
use Rattle.bm_value.specs.Tree.{depth}
use Rattle.bm_value.proofs.Spelled.{spelled}
use Rattle.bm_value.proofs.Unique.{spelled_once}
use Rattle.bm_msg.specs.Laws.{IsPlain}
use Rattle.bm_msg.specs.Limits.{IsShortRequest}
use Rattle.bm_msg.specs.Meaning.{request}
use Rattle.bm_msg.specs.Messages.{IsMessage}
use Rattle.bm_msg.specs.Trees.{tree_of, stream_of}
use Rattle.bm_msg.proofs.Readings.{told_once}
use Rattle.bm_msg.proofs.ReadsBack.{message_back}
use Rattle.bm_msg.proofs.Writable.{request_short}
use Rattle.bm_session.specs.Heard.{event_of}
use Rattle.bm_work.specs.Stream.{Report, text, code, over, asked_by, sent, request_bytes}
use Rattle.bm_replay.specs.Wire.{CanBeSaid, BytesAreRead, BytesAreTheEvent}

-- the tree of a request is well formed, flat and short, and its message plain

plain : (r : Report) → CanBeSaid r → IsPlain (asked_by r)
plain (text k letter t) h = (h.0, tt)
plain (code k z) h = (h.0, tt)
plain (over k None) h = h
plain (over k (Some fault)) h = h.0

short : (r : Report) → CanBeSaid r → IsShortRequest (asked_by r)
short (text k letter t) h = (lit< tt, (let few : length t ≤ 65536 = h.2 in omega arith, tt))
short (code k z) h = (lit< tt, (tt, tt))
short (over k None) h = tt
short (over k (Some fault)) h = let few : length fault ≤ 65536 = h.2 in omega arith

pub numeral : (k : ℕ) → k < 2 ^ 63 → IsUtf8 (decimal k)
numeral k h = IsUtf8-from_ascii (decimal k) (IsAscii-decimal k (omega arith))

-- a word of the protocol has only bytes below 128
ascii : (bs : List ℕ) → list_all (λ b. nat_lt b 128) bs ≡ true → IsAscii bs
ascii [] h = IsAscii-nil
ascii (b ∷ bs) h = go (ascii bs (and-right (nat_lt b 128) (list_all (λ b. nat_lt b 128) bs) h))
  where
    small : nat_lt b 128 ≡ true
    small = and-left (nat_lt b 128) (list_all (λ b. nat_lt b 128) bs) h

    go : IsAscii bs → IsAscii (b ∷ bs)
    go rest zero = grind (arith, nat_tests)
    go rest (suc i) = rest i

pub word : (bs : List ℕ) → list_all (λ b. nat_lt b 128) bs ≡ true → IsUtf8 bs
word bs h = IsUtf8-from_ascii bs (ascii bs h)

stream_name : (letter : Letter) → IsUtf8 (stream_of letter)
stream_name O = word (codes "stdout") refl
stream_name E = word (codes "stderr") refl
stream_name H = word (codes "header") refl

formed : (n : ℕ) (r : Report) → n < 2 ^ 63 → CanBeSaid r → IsWellFormed (tree_of (request n (asked_by r)))
formed n (text k letter t) h s =
    let few : n < 2 ^ 64 = omega arith in
    (word (codes "seq_number") refl, few, (word (codes "op") refl, word (codes "update") refl, (word (codes "command_id") refl, numeral k s.0, (word (codes "args") refl, ((stream_name letter, (s.1, tt)), tt), tt))))
formed n (code k z) h s =
    let few : n < 2 ^ 64 = omega arith in
    (word (codes "seq_number") refl, few, (word (codes "op") refl, word (codes "update") refl, (word (codes "command_id") refl, numeral k s.0, (word (codes "args") refl, ((word (codes "rc") refl, (s.1, tt)), tt), tt))))
formed n (over k None) h s =
    let few : n < 2 ^ 64 = omega arith in
    (word (codes "seq_number") refl, few, (word (codes "op") refl, word (codes "complete") refl, (word (codes "command_id") refl, numeral k s, (word (codes "args") refl, tt, tt))))
formed n (over k (Some fault)) h s =
    let few : n < 2 ^ 64 = omega arith in
    (word (codes "seq_number") refl, few, (word (codes "op") refl, word (codes "complete") refl, (word (codes "command_id") refl, numeral k s.0, (word (codes "args") refl, s.1, tt))))

flat : (n : ℕ) (r : Report) → depth (tree_of (request n (asked_by r))) ≤ 32
flat n (text k letter t) = lit≤ tt
flat n (code k z) = lit≤ tt
flat n (over k None) = lit≤ tt
flat n (over k (Some fault)) = lit≤ tt

message : (n : ℕ) (r : Report) → n < 2 ^ 63 → CanBeSaid r → IsMessage (tree_of (request n (asked_by r))) (request n (asked_by r))
message n r h s = message_back (request n (asked_by r)) (h, plain r s)

spelling : (n : ℕ) (r : Report) → n < 2 ^ 63 → CanBeSaid r → Spells (sent n r).bytes (tree_of (request n (asked_by r)))
unfolding request_bytes
spelling n r h s = spelled (tree_of (request n (asked_by r))) (formed n r h s) (request_short n (asked_by r) (short r s))

-- the laws

pub bytes_are_read : BytesAreRead
bytes_are_read n r h s = record {
  tree = tree_of (request n (asked_by r));
  spelled = spelling n r h s;
  nests = flat n r;
  told = message n r h s;
}

pub bytes_are_the_event : BytesAreTheEvent
bytes_are_the_event n r t m h s spells told =
    let same : tree_of (request n (asked_by r)) ≡ t = spelled_once (sent n r).bytes (tree_of (request n (asked_by r))) t (spelling n r h s) spells in
    let own : IsMessage t (request n (asked_by r)) = subst (λ u. IsMessage u (request n (asked_by r))) same (message n r h s) in
    ap event_of (told_once t m (request n (asked_by r)) told own)
