-- A run in which a line comes from a command to a viewer. So the law of runs speaks of something.
use Rattle.std.specs.Prelude.{◌≡◌, ℕ, List, [], ◌∷◌, codes, Option, Some, None, take}
use Rattle.bm_lane.specs.Answers.{lines_of_book}
use Rattle.bm_lines.specs.Lines.{Line}
use Rattle.bm_lines.specs.Names.{stdio}
use Rattle.bm_lines.specs.declared.letter.Letter.TheVariants.{O}
use Rattle.bm_session.specs.Texts.{exception_text}
use Rattle.bm_session.specs.Trace.{log}
use Rattle.bm_session.specs.declared.reply.Verdict.TheVariants.{Done}
use Rattle.bm_store.specs.Book.{chunk_of}
use Rattle.bm_store.specs.declared.chunk.Chunk.{Chunk}
use Rattle.bm_work.specs.Core.{unanswered_requests}
use Rattle.bm_work.specs.Stream.{Report, text, said, sent}
use Rattle.bm_link.specs.Carries.{Carried}
use Rattle.bm_msg.specs.Trees.{answer_bytes}
use Rattle.bm_outbox.specs.OutboxEntries.{reports_in}
use Rattle.bm_outbox.specs.declared.outbox_entry.OutboxEntry.{OutboxEntry}
use Rattle.bm_replay.specs.Schedule.{Act, scene_after, opening}
use Rattle.bm_wired.specs.Laws.{IsReached}
use Rattle.bm_wired.specs.Wired.{Wired, Move, Start, Turn, Wait, Tell, Listen, Drain, Look, Run, begun_wired}

abbrev pub words : List (List ℕ)
words = codes "echo" ∷ codes "hello" ∷ []

abbrev pub hello : Line
hello = record { letter = O; text = codes "hello" }

-- what the worker reports of the text that its command writes
abbrev pub report : Report
report = text 0 O (codes "hello\n")

-- The command is ordered. The worker hears the order and runs it, and the lane takes its response.
-- The text waits, and is told.
abbrev pub up_to_telling : OutboxEntry → List Move
up_to_telling entry =
    Start words ∷ Listen ∷ Turn ∷ Wait (entry ∷ []) ∷ Tell ∷ []

-- The lane takes the update and answers it.
abbrev pub up_to_answering : List Move
up_to_answering = Turn ∷ []

-- The worker hears that answer. The items of the start and of the update are shown, and a viewer
-- looks.
abbrev pub up_to_looking : List Move
up_to_looking = Listen ∷ Drain ∷ Drain ∷ Look ∷ []

-- What a look finds of the first line of the log of command 0, by a viewer that saw what is shown.
-- It is a chunk, or none where that log isn't there (`GivesChunk` of bm_lane).
abbrev pub first_seen : Wired → Option Chunk
first_seen w = lines_of_book (take w.shown w.lane.put) 0 stdio 0 1

pub record ShowsALine (start : Wired) : Type 0 where
  pub entry : OutboxEntry
  pub is : reports_in entry ≡ report ∷ []
  -- the update is under way to the lane, and nothing is logged yet
  pub told : Wired
  pub telling : Run start (up_to_telling entry) told
  pub under_way : told.up ≡ (sent 0 report).bytes ∷ []
  pub unlogged : log told.lane.trace 0 stdio ≡ []
  -- its answer is under way to the worker; the line is logged, and no viewer sees the log yet
  pub answered : Wired
  pub answering : Run told up_to_answering answered
  pub back : answered.down ≡ answer_bytes 0 (exception_text Done) ∷ []
  pub unseen : first_seen answered ≡ None
  -- nothing is under way, nothing is unanswered, and a viewer sees the line
  pub end : Wired
  pub looking : Run answered up_to_looking end
  pub arrived : (end.up ≡ []) × (end.down ≡ []) × (unanswered_requests end.core ≡ [])
  pub seen : first_seen end ≡ Some (chunk_of 0 (hello ∷ []))
  -- by the law of runs a schedule reaches it, whose log is this line, as was said
  pub schedule : (c : ℕ) × (acts : List Act) × IsReached c acts end
      × (log (scene_after (opening c) acts).lane.trace 0 stdio ≡ hello ∷ [])
  pub whole : said end.core.reports 0 ≡ hello ∷ []

-- There is such a run from each begin of a session, whatever the lane's number, its room, and what
-- it carries. (`Hears` says of an event that is taken nothing of room.)
abbrev pub RunsShowLines : Type 0
RunsShowLines =
    (id capacity : ℕ) (carry : Carried) (named : Option (List ℕ))
    → ShowsALine (begun_wired id capacity carry named)
