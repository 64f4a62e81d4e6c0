-- Which pipes of a command are open.
use Rattle.std.specs.Prelude.{◌==◌, ◌+◌, ℕ, min, nat_lt, Bool, false, not, ◌&&◌, ◌||◌, if◌then◌else◌, ℤ, negsuc, Option, Some, None}
use Rattle.bm_lines.specs.declared.letter.Letter.{Letter}
use Rattle.bm_lines.specs.declared.letter.Letter.TheVariants.{O, E, H}
use Rattle.bm_outbox.specs.declared.pipe_texts.PipeEnd.{PipeEnd}
use Rattle.bm_outbox.specs.declared.pipes.Pipes.{Pipes}

-- after the end of the command's pipe with this letter; a command has no pipe of headers
abbrev pub without_pipe : Letter → Pipes → Pipes
without_pipe O p = record p { output = false }
without_pipe E p = record p { errors = false }
without_pipe H p = p

-- after an end: that of another command's pipe ends none of these
abbrev pub with_end : PipeEnd → Pipes → Pipes
with_end end p = if end.command == p.command then without_pipe end.letter p else p

-- both came to their ends, or are waited for no more
abbrev pub are_over : Pipes → Bool
are_over p = not p.output && not p.errors

-- pipes that are open still, a minute behind the end of their command's process
abbrev pub are_held : ℕ → Pipes → Bool
are_held ms p = not (are_over p) && not (nat_lt ms 60000)

-- those are waited for no more
abbrev pub after_wait : ℕ → Pipes → Pipes
after_wait ms p = if are_held ms p then record p { output = false; errors = false } else p

-- For how long they were held open, at a glance. At most two seconds of those that have passed
-- count, and none while what the pipes gave can't be told.
abbrev pub held_ms : ℕ → ℕ → Bool → ℕ
held_ms before passed is_blocked =
    if is_blocked || not (nat_lt before 60000) then before else before + min 2000 passed

-- the exit code that is told: -1 stands for none
abbrev pub exit_code : Option ℤ → ℤ
exit_code (Some code) = code
exit_code None = negsuc 0
