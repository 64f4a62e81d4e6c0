-- What waits once its first item was told.
use Rattle.std.proofs.Common.{◌≡◌, ◌≢◌, refl, sym, ap, ◌∙◌, subst, ℕ, List, [], ◌∷◌, ◌++◌, Ok}
use Rattle.std.proofs.lemmas.List.{append_assoc}
use Rattle.bm_work.specs.Core.{Core}
use Rattle.bm_lines.specs.declared.letter.Letter.TheVariants.{H}
use Rattle.bm_outbox.specs.Faults.{fault_line}
use Rattle.bm_outbox.specs.Headers.{exit_line}
use Rattle.bm_outbox.specs.OutboxEntries.{Tells}
use Rattle.bm_outbox.specs.Opening.{Closes, Fails, IsHeader, waiting_texts}
use Rattle.bm_outbox.specs.Stopping.{AreHeaders, ClosesHeld, Stops, ending_of, held_line, stop_lines}
use Rattle.bm_outbox.specs.Telling.{TellsNext, waits_on}
use Rattle.bm_outbox.specs.declared.ending.Ending.TheVariants.{Code, CannotStart}
use Rattle.bm_outbox.specs.declared.outbox_entry.OutboxEntry.{OutboxEntry}
use Rattle.bm_outbox.specs.declared.outbox_entry.OutboxEntry.TheVariants as entry
use Rattle.bm_outbox.specs.declared.progress.Progress.{Progress}
use Rattle.bm_outbox.specs.declared.progress.Progress.TheVariants as progress
use Rattle.bm_outbox.specs.declared.pipes.ExitCode.{ExitCode}
use Rattle.bm_outbox.specs.declared.said.Said.{Said}
use Rattle.bm_outbox.specs.declared.start_fault.StartFault.{StartFault}
use Rattle.bm_outbox.specs.declared.stopping.Leftover.{Leftover}
use Rattle.bm_outbox.specs.declared.stopping.StopCause.{StopCause}

goes-on : (first : OutboxEntry) (rest : List OutboxEntry) (t : Progress) → t ≢ progress.Full → rest ≡ waits_on first rest (Ok t)
goes-on first rest progress.Nothing other = refl
goes-on first rest progress.Full other = absurd (other refl)
goes-on first rest progress.Passed other = refl
goes-on first rest (progress.Text s) other = refl
goes-on first rest (progress.End v) other = refl

-- an item that was told waits no more
pub told_first : (waiting : List OutboxEntry) (first : OutboxEntry) (rest : List OutboxEntry) (c c2 : Core) (t : Progress) → waiting ≡ first ∷ rest → t ≢ progress.Full
    → Tells first c (Ok t) c2 → TellsNext waiting c (Ok t) rest c2
told_first waiting first rest c c2 t is other h =
    subst (λ (w : List OutboxEntry). TellsNext w c (Ok t) rest c2) (sym is) (h, goes-on first rest t other)

-- the texts of the line wait, and then the end does
pub closes : (code : ExitCode) (said : List Said) (old mid new : List OutboxEntry) → IsHeader (exit_line code.code) said
    → mid ≡ old ++ waiting_texts code.command said → new ≡ mid ++ entry.End code.command (Code code) ∷ [] → Closes code old new
closes code said old mid new header is ended = (said, header, ended ∙ ap (λ m. m ++ entry.End code.command (Code code) ∷ []) is)

-- the line that says that a pipe was held open waits, and then all that closes it
pub closes_held : (k : ℕ) (code : ExitCode) (said : Said) (old mid new : List OutboxEntry) → k ≡ code.command → said.letter ≡ H → said.text ≡ held_line
    → mid ≡ old ++ entry.Text k said ∷ [] → Closes code mid new → ClosesHeld code old new
closes_held k code said old mid new same letter text is closed =
    (said, letter, text, subst (λ m. Closes code m new) (is ∙ ap (λ j. old ++ entry.Text j said ∷ []) same) closed)

-- the line that says why waits, and then the end does
pub fails : (k : ℕ) (why : StartFault) (said : Said) (old mid new : List OutboxEntry) → said.letter ≡ H → said.text ≡ fault_line why
    → mid ≡ old ++ entry.Text k said ∷ [] → new ≡ mid ++ entry.End k CannotStart ∷ [] → Fails k why old new
fails k why said old mid new letter text is ended = (_, (said, letter, text, refl), ended ∙ ap (λ m. m ++ entry.End k CannotStart ∷ []) is ∙ append_assoc old _ _)

-- the lines that say why wait, and then the end does
pub stops : (k : ℕ) (why : StopCause) (left : Leftover) (said : List Said) (old mid new : List OutboxEntry) → AreHeaders (stop_lines why left) said
    → mid ≡ old ++ waiting_texts k said → new ≡ mid ++ entry.End k (ending_of why) ∷ [] → Stops k why left old new
stops k why left said old mid new header is ended = (said, header, ended ∙ ap (λ m. m ++ entry.End k (ending_of why) ∷ []) is)
