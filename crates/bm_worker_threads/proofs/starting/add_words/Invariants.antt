use Rattle.std.proofs.Common.{◌≡◌, ◌++◌, take}
use Rattle.std.specs.Process.{SameEnv, command_args, command_program}
use Rattle.bm_worker_threads.proofs.starting.add_words.Given as goal

abbrev pub invariant-loop-word : goal.invariant-loop-word
invariant-loop-word l = record {
  words : command_args l.command ≡ command_args l.initial.command ++ take l.word-index l.rest;
  program : command_program l.command ≡ command_program l.initial.command;
  env : SameEnv l.initial.command l.command;
}
