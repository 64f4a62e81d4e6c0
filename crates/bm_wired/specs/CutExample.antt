-- A run over a cut in which a line is sent twice, and logged once. So the law over connections that
-- are cut speaks of something.
use Rattle.std.specs.Prelude.{◌≡◌, ℕ, true, false, List, [], ◌∷◌, codes, Some, None}
use Rattle.bm_lines.specs.Names.{stdio}
use Rattle.bm_outbox.specs.OutboxEntries.{reports_in}
use Rattle.bm_outbox.specs.declared.outbox_entry.OutboxEntry.{OutboxEntry}
use Rattle.bm_session.specs.Trace.{log, visible}
use Rattle.bm_session.specs.declared.event.Event.TheVariants.{Cut}
use Rattle.bm_store.specs.Book.{chunk_of}
use Rattle.bm_work.specs.Core.{unanswered_requests}
use Rattle.bm_work.specs.Stream.{said, sent}
use Rattle.bm_wired.specs.Cuts.{Joined, Step, Make, Resend, Break, Leave, Lose, Meet, Begin, Goes, apart}
use Rattle.bm_wired.specs.Example.{words, hello, report, first_seen}
use Rattle.bm_wired.specs.Wired.{Start, Turn, Wait, Tell, Listen, Drain}

-- A session begins. The command is ordered and runs, and what it writes is told, taken and
-- answered. Then the connection is cut, and that answer is lost.
abbrev pub up_to_a_cut : OutboxEntry → List Step
up_to_a_cut entry =
    Meet false (Some (codes "s")) ∷ Begin ∷ Make (Start words) ∷ Make Listen ∷ Make Turn
    ∷ Make (Wait (entry ∷ [])) ∷ Make Tell ∷ Make Turn ∷ Break 0 0 ∷ Lose Cut ∷ Leave ∷ []

-- The session is resumed, and the update is sent again.
abbrev pub up_to_sending_again : List Step
up_to_sending_again = Meet true None ∷ Begin ∷ Resend ∷ []

-- The lane takes it again and answers it, the worker hears that, and all items are shown.
abbrev pub up_to_showing : List Step
up_to_showing = Make Turn ∷ Make Listen ∷ Make Drain ∷ Make Drain ∷ []

pub record ShowsOnce (start : Joined) : Type 0 where
  pub entry : OutboxEntry
  pub is : reports_in entry ≡ report ∷ []
  -- the line is logged, and the worker doesn't know
  pub cut : Joined
  pub cutting : Goes start (up_to_a_cut entry) cut
  pub logged : log cut.wired.lane.trace 0 stdio ≡ hello ∷ []
  pub unanswered : unanswered_requests cut.wired.core ≡ sent 0 report ∷ []
  -- the update is under way once more
  pub again : Joined
  pub sending : Goes cut up_to_sending_again again
  pub under_way : again.wired.up ≡ (sent 0 report).bytes ∷ []
  -- nothing is unanswered, and viewers see the line once, as was said
  pub end : Joined
  pub showing : Goes again up_to_showing end
  pub answered : unanswered_requests end.wired.core ≡ []
  pub seen : first_seen end.wired ≡ Some (chunk_of 0 (hello ∷ []))
  pub once : log (visible end.wired.lane.trace end.wired.shown) 0 stdio ≡ hello ∷ []
  pub said : said end.told 0 ≡ hello ∷ []

abbrev pub CutsShowLines : Type 0
CutsShowLines = (id capacity : ℕ) → ShowsOnce (apart id capacity true)
