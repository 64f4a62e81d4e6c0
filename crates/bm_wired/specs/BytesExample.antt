-- A run over bytes in which a cut falls inside a frame, and a line is sent twice and logged once.
-- So the law over bytes speaks of something.
use Rattle.std.specs.Prelude.{◌≡◌, ℕ, true, false, List, [], ◌∷◌, ◌++◌, length, codes, Some}
use Rattle.bm_lines.specs.Names.{stdio}
use Rattle.bm_outbox.specs.OutboxEntries.{reports_in}
use Rattle.bm_outbox.specs.declared.outbox_entry.OutboxEntry.{OutboxEntry}
use Rattle.bm_session.specs.Trace.{log, visible}
use Rattle.bm_session.specs.declared.event.Event.TheVariants.{Cut}
use Rattle.bm_store.specs.Book.{chunk_of}
use Rattle.bm_work.specs.Core.{unanswered_requests}
use Rattle.bm_work.specs.Stream.{said, sent}
use Rattle.bm_wired.specs.Bytes.{OverBytes, GoesOver, bytes_apart}
use Rattle.bm_wired.specs.CutExample.{up_to_sending_again, up_to_showing}
use Rattle.bm_wired.specs.Cuts.{Step, Make, Break, Leave, Lose, Meet, Begin}
use Rattle.bm_wired.specs.Example.{words, hello, report, first_seen}
use Rattle.bm_wired.specs.Wired.{Start, Turn, Wait, Tell, Listen}

-- As over messages, but of the frame of the answer one byte is left.
abbrev pub up_to_one_byte : OutboxEntry → List Step
up_to_one_byte entry =
    Meet false (Some (codes "s")) ∷ Begin ∷ Make (Start words) ∷ Make Listen ∷ Make Turn
    ∷ Make (Wait (entry ∷ [])) ∷ Make Tell ∷ Make Turn ∷ Break 0 1 ∷ []

-- The links end, and the session is resumed. All goes on as over messages.
abbrev pub up_to_its_end : List Step
up_to_its_end = Lose Cut ∷ Leave ∷ (up_to_sending_again ++ up_to_showing)

pub record ShowsOnceOverBytes (start : OverBytes) : Type 0 where
  pub entry : OutboxEntry
  pub is : reports_in entry ≡ report ∷ []
  -- a part of the answer's frame is under way, the line is logged, and the worker doesn't know
  pub cut : OverBytes
  pub cutting : GoesOver start (up_to_one_byte entry) cut
  pub part : length cut.down ≡ 1
  pub logged : log cut.ends.wired.lane.trace 0 stdio ≡ hello ∷ []
  pub unanswered : unanswered_requests cut.ends.wired.core ≡ sent 0 report ∷ []
  -- nothing is unanswered, and viewers see the line once, as was said
  pub end : OverBytes
  pub going_on : GoesOver cut up_to_its_end end
  pub answered : unanswered_requests end.ends.wired.core ≡ []
  pub seen : first_seen end.ends.wired ≡ Some (chunk_of 0 (hello ∷ []))
  pub once : log (visible end.ends.wired.lane.trace end.ends.wired.shown) 0 stdio ≡ hello ∷ []
  pub said : said end.ends.told 0 ≡ hello ∷ []

abbrev pub BytesShowLines : Type 0
BytesShowLines = (id capacity : ℕ) → ShowsOnceOverBytes (bytes_apart id capacity true)
