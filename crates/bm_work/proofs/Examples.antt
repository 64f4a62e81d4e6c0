-- Definitions on worked examples. The bytes are those that this project's profile gives for its
-- messages.
use Rattle.std.proofs.Common.{◌≡◌, [], ◌∷◌, pos, Some, None, refl}
use Rattle.std.specs.Prelude.{codes}
use Rattle.std.specs.Fmt as numerals
use Rattle.bm_value.specs.Writing as writing
use Rattle.bm_value.specs.Tree.{str, int, array, dict, none, item, no_pairs, pair}
use Rattle.bm_lines.specs.declared.letter.Letter.TheVariants.{O, E}
use Rattle.bm_work.specs.declared.worker_answer.WorkerAnswer.TheVariants.{Done, NoSuchCommand}
use Rattle.bm_work.specs.Argv.{argv_of}
use Rattle.bm_work.specs.Replies.{reply}
use Rattle.bm_work.specs.Stream.{text, code, over, asked_by, request_bytes, said}
use Rattle.bm_work.specs.Cuts.{texts_of, left_of, last_text}

first_update : request_bytes 0 (asked_by (text 0 O (codes "a\n"))) ≡ 0x84 ∷ 0xaa ∷ 0x73 ∷ 0x65 ∷ 0x71 ∷ 0x5f ∷ 0x6e ∷ 0x75 ∷ 0x6d ∷ 0x62 ∷ 0x65 ∷ 0x72 ∷ 0x00 ∷ 0xa2 ∷ 0x6f ∷ 0x70 ∷ 0xa6 ∷ 0x75 ∷ 0x70 ∷ 0x64 ∷ 0x61 ∷ 0x74 ∷ 0x65 ∷ 0xaa ∷ 0x63 ∷ 0x6f ∷ 0x6d ∷ 0x6d ∷ 0x61 ∷ 0x6e ∷ 0x64 ∷ 0x5f ∷ 0x69 ∷ 0x64 ∷ 0xa1 ∷ 0x30 ∷ 0xa4 ∷ 0x61 ∷ 0x72 ∷ 0x67 ∷ 0x73 ∷ 0x91 ∷ 0x92 ∷ 0xa6 ∷ 0x73 ∷ 0x74 ∷ 0x64 ∷ 0x6f ∷ 0x75 ∷ 0x74 ∷ 0xa2 ∷ 0x61 ∷ 0x0a ∷ []
unfolding request_bytes writing.map_head writing.array_head writing.str_head writing.unsigned numerals.digits
first_update = refl

second_complete : request_bytes 1 (asked_by (over 0 None)) ≡ 0x84 ∷ 0xaa ∷ 0x73 ∷ 0x65 ∷ 0x71 ∷ 0x5f ∷ 0x6e ∷ 0x75 ∷ 0x6d ∷ 0x62 ∷ 0x65 ∷ 0x72 ∷ 0x01 ∷ 0xa2 ∷ 0x6f ∷ 0x70 ∷ 0xa8 ∷ 0x63 ∷ 0x6f ∷ 0x6d ∷ 0x70 ∷ 0x6c ∷ 0x65 ∷ 0x74 ∷ 0x65 ∷ 0xaa ∷ 0x63 ∷ 0x6f ∷ 0x6d ∷ 0x6d ∷ 0x61 ∷ 0x6e ∷ 0x64 ∷ 0x5f ∷ 0x69 ∷ 0x64 ∷ 0xa1 ∷ 0x30 ∷ 0xa4 ∷ 0x61 ∷ 0x72 ∷ 0x67 ∷ 0x73 ∷ 0xc0 ∷ []
unfolding request_bytes writing.map_head writing.array_head writing.str_head writing.unsigned numerals.digits
second_complete = refl

first_done : reply 0 Done ≡ 0x83 ∷ 0xaa ∷ 0x73 ∷ 0x65 ∷ 0x71 ∷ 0x5f ∷ 0x6e ∷ 0x75 ∷ 0x6d ∷ 0x62 ∷ 0x65 ∷ 0x72 ∷ 0x00 ∷ 0xa2 ∷ 0x6f ∷ 0x70 ∷ 0xa8 ∷ 0x72 ∷ 0x65 ∷ 0x73 ∷ 0x70 ∷ 0x6f ∷ 0x6e ∷ 0x73 ∷ 0x65 ∷ 0xa6 ∷ 0x72 ∷ 0x65 ∷ 0x73 ∷ 0x75 ∷ 0x6c ∷ 0x74 ∷ 0xc0 ∷ []
unfolding reply writing.map_head writing.str_head writing.unsigned
first_done = refl

second_refused : reply 1 NoSuchCommand ≡ 0x84 ∷ 0xaa ∷ 0x73 ∷ 0x65 ∷ 0x71 ∷ 0x5f ∷ 0x6e ∷ 0x75 ∷ 0x6d ∷ 0x62 ∷ 0x65 ∷ 0x72 ∷ 0x01 ∷ 0xa2 ∷ 0x6f ∷ 0x70 ∷ 0xa8 ∷ 0x72 ∷ 0x65 ∷ 0x73 ∷ 0x70 ∷ 0x6f ∷ 0x6e ∷ 0x73 ∷ 0x65 ∷ 0xa6 ∷ 0x72 ∷ 0x65 ∷ 0x73 ∷ 0x75 ∷ 0x6c ∷ 0x74 ∷ 0xaf ∷ 0x6e ∷ 0x6f ∷ 0x20 ∷ 0x73 ∷ 0x75 ∷ 0x63 ∷ 0x68 ∷ 0x20 ∷ 0x63 ∷ 0x6f ∷ 0x6d ∷ 0x6d ∷ 0x61 ∷ 0x6e ∷ 0x64 ∷ 0xac ∷ 0x69 ∷ 0x73 ∷ 0x5f ∷ 0x65 ∷ 0x78 ∷ 0x63 ∷ 0x65 ∷ 0x70 ∷ 0x74 ∷ 0x69 ∷ 0x6f ∷ 0x6e ∷ 0xc3 ∷ []
unfolding reply writing.map_head writing.str_head writing.unsigned
second_refused = refl

-- a command's words
words : argv_of (dict (pair (str (codes "command")) (array (item (str (codes "true")) none)) no_pairs)) ≡ Some (codes "true" ∷ [])
words = refl

line_for_a_shell : argv_of (dict (pair (str (codes "command")) (str (codes "echo a")) no_pairs)) ≡ Some (codes "sh" ∷ codes "-c" ∷ codes "echo a" ∷ [])
line_for_a_shell = refl

no_words : argv_of (dict (pair (str (codes "command")) (array none) no_pairs)) ≡ None
no_words = refl

a_number_among_words : argv_of (dict (pair (str (codes "command")) (array (item (str (codes "true")) (item (int (pos 1)) none))) no_pairs)) ≡ None
a_number_among_words = refl

no_command : argv_of (dict (pair (str (codes "line")) (str (codes "true")) no_pairs)) ≡ None
no_command = refl

-- the lines of each command's texts, one after the other
said_of_command : said (text 0 O (codes "a\nb") ∷ text 1 O (codes "x\n") ∷ text 0 E (codes "c\n") ∷ code 0 (pos 3) ∷ over 0 None ∷ []) 0
    ≡ record { letter = O; text = codes "a" } ∷ record { letter = O; text = codes "b" } ∷ record { letter = E; text = codes "c" } ∷ []
said_of_command = refl

-- pieces and lines
one_line : texts_of (codes "abc\nd") ≡ codes "abc\n" ∷ []
one_line = refl

its_rest : left_of (codes "abc\nd") ≡ codes "d"
its_rest = refl

nothing_left : last_text (left_of (codes "a\n")) ≡ None
nothing_left = refl
