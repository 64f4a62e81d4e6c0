use Rattle.std.proofs.Common.{◌≡◌, ◌++◌, take}
use Rattle.std.specs.Process.{command_args, command_program}
use Rattle.bm_programs.proofs.worker_process.add_words.Given as goal

-- the words so far are behind those that it had
abbrev pub invariant-loop-word : goal.invariant-loop-word
invariant-loop-word l =
    (command_args l.command ≡ command_args l.initial.command ++ take l.word-index l.words)
    × (command_program l.command ≡ command_program l.initial.command)
