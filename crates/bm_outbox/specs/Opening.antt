-- How a command begins and ends in what waits to be told.
use Rattle.std.specs.Prelude.{◌≡◌, ◌⊎◌, ℕ, List, [], ◌∷◌, ◌++◌, map, Option, Some, None}
use Rattle.bm_lines.specs.declared.letter.Letter.TheVariants.{H}
use Rattle.bm_work.specs.Cuts.{texts_of as cut_texts, left_of, shown}
use Rattle.bm_outbox.specs.Faults.{fault_line}
use Rattle.bm_outbox.specs.Headers.{words_line, exit_line}
use Rattle.bm_outbox.specs.Joining.{IsJoined}
use Rattle.bm_outbox.specs.Pieces.{IsLast}
use Rattle.bm_outbox.specs.declared.ending.Ending.TheVariants.{Code, CannotStart}
use Rattle.bm_outbox.specs.declared.outbox_entry.OutboxEntry.{OutboxEntry}
use Rattle.bm_outbox.specs.declared.outbox_entry.OutboxEntry.TheVariants as entry
use Rattle.bm_outbox.specs.declared.pipes.ExitCode.{ExitCode}
use Rattle.bm_outbox.specs.declared.said.Said.{Said}
use Rattle.bm_outbox.specs.declared.start_fault.StartFault.{StartFault}

abbrev pub just : Option Said → List Said
just (Some s) = s ∷ []
just None = []

-- what is said of a header line: as of a pipe of headers that gives it, to its end
pub record IsHeader (line : List ℕ) (said : List Said) : Type 0 where
  pub whole : List Said
  pub rest : Option Said
  pub joined : IsJoined H (shown (cut_texts line)) whole
  pub last : IsLast H (left_of line) rest
  pub all : said ≡ whole ++ just rest

-- texts of a command that wait
abbrev pub waiting_texts : ℕ → List Said → List OutboxEntry
waiting_texts k said = map (λ s. entry.Text k s) said

-- behind what waited, the line of a command's words, and then what follows it
abbrev pub Opens : ℕ → List (List ℕ) → List OutboxEntry → List OutboxEntry → List OutboxEntry → Type 0
Opens k words follows old new = (said : List Said) × IsHeader (words_line words) said
    × (new ≡ old ++ waiting_texts k said ++ follows)

-- what is told of a command that can't be started: one header, the line that says why, and its end
abbrev pub EndsUnstarted : ℕ → StartFault → List OutboxEntry → Type 0
EndsUnstarted k why told = (said : Said) × (said.letter ≡ H) × (said.text ≡ fault_line why)
    × (told ≡ entry.Text k said ∷ entry.End k CannotStart ∷ [])

-- that waits behind what waited
abbrev pub Fails : ℕ → StartFault → List OutboxEntry → List OutboxEntry → Type 0
Fails k why old new = (told : List OutboxEntry) × EndsUnstarted k why told × (new ≡ old ++ told)

-- A command begins: the line of its words waits, and nothing of it before that line. Where its
-- process can't be started, why and its end follow at once.
abbrev pub Starts : ℕ → List (List ℕ) → List OutboxEntry → List OutboxEntry → Type 0
Starts k words old new = Opens k words [] old new
    ⊎ ((why : StartFault) × (told : List OutboxEntry) × EndsUnstarted k why told
    × Opens k words told old new)

-- The command whose pipes gave this exit code has ended. The line of that code waits behind all
-- that was told, and its end behind that.
abbrev pub Closes : ExitCode → List OutboxEntry → List OutboxEntry → Type 0
Closes code old new = (said : List Said) × IsHeader (exit_line code.code) said
    × (new ≡ old ++ waiting_texts code.command said ++ entry.End code.command (Code code) ∷ [])
