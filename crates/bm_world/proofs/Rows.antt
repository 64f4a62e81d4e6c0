-- Worked scripts, which compute.
use Rattle.std.specs.Prelude.{◌≡◌, refl, ℕ, List, [], ◌∷◌, None, codes}
use Rattle.bm_lines.specs.Names.{Name, stdio}
use Rattle.bm_lines.specs.Lines.{Line, lines_of}
use Rattle.bm_lines.specs.declared.letter.Letter.TheVariants.{O}
use Rattle.bm_session.specs.declared.event.Event.{Event}
use Rattle.bm_session.specs.declared.event.Event.TheVariants.{Up, In, Go, Stop, Cut, Down}
use Rattle.bm_session.specs.declared.event.Body.TheVariants.{Update}
use Rattle.bm_session.specs.declared.refusal.Refusal.TheVariants.{NotUp, AlreadyUp, TooManyOpen}
use Rattle.bm_session.specs.declared.reply.Reply.TheVariants.{Silent, Answer as Told, Start, Interrupt}
use Rattle.bm_session.specs.declared.reply.Verdict.TheVariants.{Done, NoCommand}
use Rattle.bm_store.specs.Book.{chunk_of}
use Rattle.bm_world.specs.declared.answer.Answer.{Answer}
use Rattle.bm_world.specs.declared.answer.Answer.TheVariants.{Heard, Refused, Busy, Took, Empty, Chunk, NoLog}
use Rattle.bm_world.specs.declared.step.Step.TheVariants.{Hear, Drain, Look}
use Rattle.bm_world.specs.World.{start, answers_of}

-- an update of command k, by a text of a log
abbrev named : Name → ℕ → ℕ → List ℕ → Event
named name n k text = In n (Update k (record { name = name; block = lines_of O text } ∷ []) None)

abbrev update : ℕ → ℕ → List ℕ → Event
update n k text = named stdio n k text

abbrev shown : List Line → Answer
shown ls = Chunk (chunk_of 0 ls)

abbrev line : List ℕ → Line
line text = record { letter = O; text = text }

nothing_is_there_at_first : answers_of (start 4) (Look 0 stdio 0 10 ∷ Hear (Stop 0) ∷ Drain ∷ []) ≡ NoLog ∷ Refused NotUp ∷ Empty ∷ []
nothing_is_there_at_first = refl

lines_are_seen_once_drained : answers_of (start 4) (Hear Up ∷ Hear Go ∷ Hear (update 0 0 (codes "a\n")) ∷ Look 0 stdio 0 10 ∷ Drain ∷ Look 0 stdio 0 10 ∷ Drain ∷ Look 0 stdio 0 10 ∷ [])
    ≡ Heard Silent ∷ Heard (Start 0 0) ∷ Heard (Told 0 Done) ∷ NoLog ∷ Took ∷ shown [] ∷ Took ∷ shown (line (codes "a") ∷ []) ∷ []
lines_are_seen_once_drained = refl

full_queue_is_busy_until_drained : answers_of (start 1) (Hear Up ∷ Hear Go ∷ Hear Down ∷ Drain ∷ Hear Down ∷ Hear Up ∷ Look 0 stdio 0 9 ∷ [])
    ≡ Heard Silent ∷ Heard (Start 0 0) ∷ Busy ∷ Took ∷ Heard Silent ∷ Heard Silent ∷ shown [] ∷ []
full_queue_is_busy_until_drained = refl

busy_lane_takes_after_drain : answers_of (start 4) (Hear Up ∷ Hear Go ∷ Hear (update 0 0 (codes "a\n")) ∷ Hear (update 1 0 (codes "a\n")) ∷ Hear (update 2 0 (codes "a\n")) ∷ Hear (update 3 0 (codes "a\n")) ∷ Hear (Stop 0) ∷ Drain ∷ Hear (update 3 0 (codes "a\n")) ∷ Look 0 stdio 0 9 ∷ [])
    ≡ Heard Silent ∷ Heard (Start 0 0) ∷ Heard (Told 0 Done) ∷ Heard (Told 1 Done) ∷ Heard (Told 2 Done) ∷ Busy ∷ Heard (Interrupt 1 0) ∷ Took ∷ Heard (Told 3 Done) ∷ shown [] ∷ []
busy_lane_takes_after_drain = refl

numbers_start_afresh_after_a_loss : answers_of (start 8) (Hear Up ∷ Hear Go ∷ Hear (update 0 0 (codes "a\n")) ∷ Hear Down ∷ Hear Up ∷ Hear (update 0 0 (codes "a\n")) ∷ Hear Go ∷ Hear (update 1 1 (codes "n\n")) ∷ Hear (update 0 1 (codes "z\n")) ∷ [])
    ≡ Heard Silent ∷ Heard (Start 0 0) ∷ Heard (Told 0 Done) ∷ Heard Silent ∷ Heard Silent ∷ Heard (Told 0 NoCommand) ∷ Heard (Start 0 1) ∷ Heard (Told 1 Done) ∷ Heard (Told 0 NoCommand) ∷ []
numbers_start_afresh_after_a_loss = refl

four_commands_are_open_at_most : answers_of (start 8) (Hear Up ∷ Hear Up ∷ Hear Go ∷ Hear Go ∷ Hear Go ∷ Hear Go ∷ Hear Go ∷ [])
    ≡ Heard Silent ∷ Refused AlreadyUp ∷ Heard (Start 0 0) ∷ Heard (Start 1 1) ∷ Heard (Start 2 2) ∷ Heard (Start 3 3) ∷ Refused TooManyOpen ∷ []
four_commands_are_open_at_most = refl

named_log_is_seen_under_its_name : answers_of (start 4) (Hear Up ∷ Hear Go ∷ Hear (named (codes "l") 0 0 (codes "x\n")) ∷ Look 0 (codes "l") 0 9 ∷ Drain ∷ Drain ∷ Look 0 (codes "l") 0 9 ∷ Look 0 (codes "m") 0 9 ∷ [])
    ≡ Heard Silent ∷ Heard (Start 0 0) ∷ Heard (Told 0 Done) ∷ NoLog ∷ Took ∷ Took ∷ shown (line (codes "x") ∷ []) ∷ NoLog ∷ []
named_log_is_seen_under_its_name = refl

resumed_session_doubles_no_line : answers_of (start 8) (Hear Up ∷ Hear Go ∷ Hear (update 0 0 (codes "a\n")) ∷ Hear (update 1 0 (codes "b\n")) ∷ Hear Cut ∷ Hear Up ∷ Hear (update 1 0 (codes "b\n")) ∷ Hear (update 2 0 (codes "c\n")) ∷ Drain ∷ Drain ∷ Drain ∷ Drain ∷ Drain ∷ Look 0 stdio 0 9 ∷ [])
    ≡ Heard Silent ∷ Heard (Start 0 0) ∷ Heard (Told 0 Done) ∷ Heard (Told 1 Done) ∷ Heard Silent ∷ Heard Silent ∷ Heard (Told 1 Done) ∷ Heard (Told 2 Done) ∷ Took ∷ Took ∷ Took ∷ Took ∷ Empty
    ∷ shown (line (codes "a") ∷ line (codes "b") ∷ line (codes "c") ∷ []) ∷ []
resumed_session_doubles_no_line = refl

cut_session_is_resumed_or_given_up : answers_of (start 8) (Hear Up ∷ Hear Go ∷ Hear Cut ∷ Hear Cut ∷ Hear Go ∷ Hear Up ∷ Hear Go ∷ Hear Cut ∷ Hear Down ∷ Hear Up ∷ Hear Go ∷ [])
    ≡ Heard Silent ∷ Heard (Start 0 0) ∷ Heard Silent ∷ Refused NotUp ∷ Refused NotUp ∷ Heard Silent ∷ Heard (Start 1 1) ∷ Heard Silent ∷ Heard Silent ∷ Heard Silent ∷ Heard (Start 0 2) ∷ []
cut_session_is_resumed_or_given_up = refl
