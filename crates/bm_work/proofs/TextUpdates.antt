-- The pieces of an update of one text, one behind the other, are its written form.
use Rattle.std.proofs.Common.{◌≡◌, ℕ, pos, codes, List, [], ◌++◌, append_assoc, append-nil}
use Rattle.std.specs.Fmt.{decimal}
use Rattle.bm_lines.specs.declared.letter.Letter.{Letter}
use Rattle.bm_value.specs.Tree.{int, str}
use Rattle.bm_value.specs.Writing.{written, map_head, array_head}
use Rattle.bm_msg.specs.Trees.{stream_of}
use Rattle.bm_work.specs.Stream.{text, asked_by, request_bytes}

pub text-written : (n k : ℕ) (letter : Letter) (t : List ℕ) →
    [] ++ map_head 4 ++ written (str (codes "seq_number")) ++ written (int (pos n))
    ++ written (str (codes "op")) ++ written (str (codes "update"))
    ++ written (str (codes "command_id")) ++ written (str (decimal k))
    ++ written (str (codes "args")) ++ array_head 1 ++ array_head 2
    ++ written (str (stream_of letter)) ++ written (str t)
    ≡ request_bytes n (asked_by (text k letter t))
unfolding request_bytes
text-written n k letter t = simp (append_assoc, append-nil)

pub ruleset text_updates = text-written
