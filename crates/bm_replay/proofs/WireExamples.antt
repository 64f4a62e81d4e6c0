-- Why a worker can say nothing of a command with a number of 2^63 or more: such a request has no
-- tree.
use Rattle.std.proofs.Common.{◌<◌, ◌^◌, Some, None, arith}
use Rattle.std.specs.Prelude.{codes, pos}
use Rattle.bm_lines.specs.declared.letter.Letter.TheVariants.{O}
use Rattle.bm_msg.specs.Meaning.{request}
use Rattle.bm_work.specs.Stream.{Report, text, code, over, asked_by, sent}
use Rattle.bm_replay.specs.Wire.{AreRead}

abbrev IsReadAsSaid : Report → Type 0
IsReadAsSaid r = AreRead (sent 0 r).bytes (request 0 (asked_by r))

text_of_no_command : ¬ IsReadAsSaid (text (2 ^ 63) O (codes "a\n"))
text_of_no_command r = let low : 2 ^ 63 < 2 ^ 63 = r.told.1.1.1 in absurd (omega arith)

code_of_no_command : ¬ IsReadAsSaid (code (2 ^ 63) (pos 0))
code_of_no_command r = let low : 2 ^ 63 < 2 ^ 63 = r.told.1.1.1 in absurd (omega arith)

end_of_no_command : ¬ IsReadAsSaid (over (2 ^ 63) None)
end_of_no_command r = let low : 2 ^ 63 < 2 ^ 63 = r.told.1.1.1 in absurd (omega arith)

fault_of_no_command : ¬ IsReadAsSaid (over (2 ^ 63) (Some (codes "killed")))
fault_of_no_command r = let low : 2 ^ 63 < 2 ^ 63 = r.told.1.1.1 in absurd (omega arith)
