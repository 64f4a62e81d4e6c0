-- Worked rows on traces: each is a closed example, which computes.
use Rattle.std.specs.Prelude.{◌≡◌, refl, ℕ, pos, Bool, true, false, List, [], ◌∷◌, ◌++◌, Some, None, map}
use Rattle.std.proofs.Common.{arith}
use Rattle.bm_lines.specs.Lines.{Line, lines_of}
use Rattle.bm_lines.specs.Names.{Name, stdio}
use Rattle.bm_lines.specs.LineBatches.{with_item}
use Rattle.bm_lines.specs.declared.letter.Letter.TheVariants.{O, E, H}
use Rattle.bm_session.specs.declared.event.Event.{Event}
use Rattle.bm_session.specs.declared.event.Event.TheVariants.{Up, In, Go, Stop, Cut, Down}
use Rattle.bm_session.specs.declared.event.Body.TheVariants.{Auth, Update, Complete, BadArgs, NoSuchOp, Answered}
use Rattle.bm_session.specs.declared.item.Item.TheVariants.{Open, End, Gone}
use Rattle.bm_session.specs.declared.refusal.Refusal.TheVariants.{NotUp, AlreadyUp, TooManyOpen, NoSuchCommand}
use Rattle.bm_session.specs.declared.reply.Reply.{Reply}
use Rattle.bm_session.specs.declared.reply.Reply.TheVariants.{Silent, Answer, Start, Interrupt}
use Rattle.bm_session.specs.declared.reply.Verdict.TheVariants.{Done, NoCommand, AuthAgain, BadArgs as Verdict_BadArgs, NoSuchOp as Verdict_NoSuchOp}
use Rattle.bm_session.specs.declared.results.Results.TheVariants.{Success, Failure, Exception, Retry, Cancelled}
use Rattle.bm_session.specs.declared.run.Ran.TheVariants.{Done as Ran_Done, Refused}
use Rattle.bm_session.specs.Seen.{IsMerged, verdict_in}
use Rattle.bm_session.specs.Session.{ran_after, trace_after}
use Rattle.bm_session.specs.Trace.{Trace, Moment, moments, below, log, has_log, outcome, open_commands, items, productive, visible, refusal, reply, seen, pending}

-- a line of standard output with one character
abbrev o : ℕ → Line
o c = record { letter = O; text = c ∷ [] }

-- an update n of command k with that line in `stdio`
abbrev U : ℕ → ℕ → ℕ → Event
U n k c = In n (Update k ((record { name = stdio; block = o c ∷ [] }) ∷ []) None)

-- one with an exit code
abbrev R : ℕ → ℕ → ℕ → Event
R n k z = In n (Update k [] (Some (pos z)))

-- one with a text of a named log
abbrev N : ℕ → ℕ → Name → List ℕ → Event
N n k name text = In n (Update k (with_item name (lines_of O text) []) None)

-- a complete without a fault
abbrev C : ℕ → ℕ → Event
C n k = In n (Complete k false)

-- an answer to order n
abbrev A : ℕ → Bool → Event
A n fault = In n (Answered fault)

-- what the master sends at each place
abbrev replies : Trace → List Reply
replies t = map (λ (m : Moment). reply m.past m.event) (moments t)

-- nothing is taken before an Up, and no log is there
before_the_first_up : (refusal [] (Stop 0) ≡ Some NotUp) × (refusal [] Cut ≡ Some NotUp) × (refusal [] Down ≡ Some NotUp) × (has_log [] 0 stdio ≡ false)
before_the_first_up = (refl, refl, refl, refl)

repeat_adds_no_line : (log (Up ∷ Go ∷ U 0 0 97 ∷ U 0 0 97 ∷ []) 0 stdio ≡ o 97 ∷ [])
    × (replies (Up ∷ Go ∷ U 0 0 97 ∷ U 0 0 97 ∷ []) ≡ Silent ∷ Start 0 0 ∷ Answer 0 Done ∷ Answer 0 Done ∷ [])
repeat_adds_no_line = (refl, refl)

repeat_is_known_after_other_numbers : log (Up ∷ Go ∷ U 0 0 97 ∷ U 1 0 98 ∷ U 0 0 99 ∷ []) 0 stdio ≡ o 97 ∷ o 98 ∷ []
repeat_is_known_after_other_numbers = refl

abbrev completed : Trace
completed = Up ∷ Go ∷ C 0 0 ∷ U 1 0 98 ∷ C 0 0 ∷ []

repeat_is_answered_as_first : (replies completed ≡ Silent ∷ Start 0 0 ∷ Answer 0 Done ∷ Answer 1 NoCommand ∷ Answer 0 Done ∷ [])
    × (log completed 0 stdio ≡ []) × (outcome completed 0 ≡ Some Exception)
repeat_is_answered_as_first = (refl, refl, refl)

abbrev reconnected : Trace
reconnected = Up ∷ Go ∷ U 0 0 97 ∷ Down ∷ Up ∷ U 0 0 97 ∷ Go ∷ U 1 1 110 ∷ U 0 1 122 ∷ []

numbers_start_afresh_after_a_giving_up : (replies reconnected ≡ Silent ∷ Start 0 0 ∷ Answer 0 Done ∷ Silent ∷ Silent ∷ Answer 0 NoCommand ∷ Start 0 1 ∷ Answer 1 Done ∷ Answer 0 NoCommand ∷ [])
    × (log reconnected 0 stdio ≡ o 97 ∷ []) × (outcome reconnected 0 ≡ Some Retry)
    × (log reconnected 1 stdio ≡ o 110 ∷ []) × (outcome reconnected 1 ≡ None)
numbers_start_afresh_after_a_giving_up = (refl, refl, refl, refl, refl)

-- stdout `a`, a line end and `b`; header `h`; stderr nothing
texts_are_cut_at_line_ends : log (Up ∷ Go ∷ In 0 (Update 0 (with_item stdio (lines_of E []) (with_item stdio (lines_of H (104 ∷ 10 ∷ [])) (with_item stdio (lines_of O (97 ∷ 10 ∷ 98 ∷ [])) []))) None) ∷ []) 0 stdio
    ≡ o 97 ∷ o 98 ∷ (record { letter = H; text = 104 ∷ [] }) ∷ []
texts_are_cut_at_line_ends = refl

four_commands_are_open_at_most : ran_after [] (Up ∷ Up ∷ Go ∷ Go ∷ Go ∷ Go ∷ Go ∷ [])
    ≡ Ran_Done Silent None ∷ Refused AlreadyUp ∷ Ran_Done (Start 0 0) (Some (Open 0)) ∷ Ran_Done (Start 1 1) (Some (Open 1)) ∷ Ran_Done (Start 2 2) (Some (Open 2)) ∷ Ran_Done (Start 3 3) (Some (Open 3)) ∷ Refused TooManyOpen ∷ []
four_commands_are_open_at_most = refl

refused_start_ends_the_command : (outcome (Up ∷ Go ∷ A 0 true ∷ []) 0 ≡ Some Exception) × (items (Up ∷ Go ∷ A 0 true ∷ []) ≡ Open 0 ∷ End 0 Exception ∷ [])
refused_start_ends_the_command = (refl, refl)

stopped_command_is_cancelled : (replies (Up ∷ Go ∷ Stop 0 ∷ C 0 0 ∷ []) ≡ Silent ∷ Start 0 0 ∷ Interrupt 1 0 ∷ Answer 0 Done ∷ []) × (outcome (Up ∷ Go ∷ Stop 0 ∷ C 0 0 ∷ []) 0 ≡ Some Cancelled)
stopped_command_is_cancelled = (refl, refl)

accepted_start_changes_nothing : (replies (Up ∷ Go ∷ A 0 false ∷ U 0 0 97 ∷ U 0 0 97 ∷ []) ≡ Silent ∷ Start 0 0 ∷ Silent ∷ Answer 0 Done ∷ Answer 0 Done ∷ []) × (outcome (Up ∷ Go ∷ A 0 false ∷ []) 0 ≡ None)
accepted_start_changes_nothing = (refl, refl)

last_exit_code_counts : (outcome (Up ∷ Go ∷ R 0 0 3 ∷ R 1 0 0 ∷ C 2 0 ∷ []) 0 ≡ Some Success) × (outcome (Up ∷ Go ∷ R 0 0 3 ∷ C 2 0 ∷ []) 0 ≡ Some Failure)
last_exit_code_counts = (refl, refl)

other_requests_have_their_verdicts : replies (Up ∷ In 4 Auth ∷ In 5 BadArgs ∷ In 6 NoSuchOp ∷ []) ≡ Silent ∷ Answer 4 AuthAgain ∷ Answer 5 Verdict_BadArgs ∷ Answer 6 Verdict_NoSuchOp ∷ []
other_requests_have_their_verdicts = refl

refused_events_are_passed_over : (ran_after [] (Up ∷ Up ∷ Go ∷ Stop 1 ∷ Stop 0 ∷ Down ∷ [])
    ≡ Ran_Done Silent None ∷ Refused AlreadyUp ∷ Ran_Done (Start 0 0) (Some (Open 0)) ∷ Refused NoSuchCommand ∷ Ran_Done (Interrupt 1 0) None ∷ Ran_Done Silent (Some Gone) ∷ [])
    × (trace_after [] (Up ∷ Up ∷ Go ∷ Stop 1 ∷ Stop 0 ∷ Down ∷ []) ≡ Up ∷ Go ∷ Stop 0 ∷ Down ∷ [])
    × (outcome (Up ∷ Go ∷ Stop 0 ∷ Down ∷ []) 0 ≡ Some Retry)
refused_events_are_passed_over = (refl, refl, refl)

-- Cuts

abbrev resumed : Trace
resumed = Up ∷ Go ∷ U 0 0 97 ∷ U 1 0 98 ∷ Cut ∷ Up ∷ U 1 0 98 ∷ U 2 0 99 ∷ []

resumed_session_doubles_no_line : (replies resumed ≡ Silent ∷ Start 0 0 ∷ Answer 0 Done ∷ Answer 1 Done ∷ Silent ∷ Silent ∷ Answer 1 Done ∷ Answer 2 Done ∷ [])
    × (log resumed 0 stdio ≡ o 97 ∷ o 98 ∷ o 99 ∷ []) × (outcome resumed 0 ≡ None) × (productive resumed ≡ 4)
resumed_session_doubles_no_line = (refl, refl, refl, refl)

cut_keeps_commands_until_the_giving_up : (ran_after [] (Up ∷ Go ∷ Cut ∷ Cut ∷ Go ∷ Up ∷ Go ∷ Cut ∷ Down ∷ Up ∷ Go ∷ [])
    ≡ Ran_Done Silent None ∷ Ran_Done (Start 0 0) (Some (Open 0)) ∷ Ran_Done Silent None ∷ Refused NotUp ∷ Refused NotUp ∷ Ran_Done Silent None ∷ Ran_Done (Start 1 1) (Some (Open 1)) ∷ Ran_Done Silent None ∷ Ran_Done Silent (Some Gone) ∷ Ran_Done Silent None ∷ Ran_Done (Start 0 2) (Some (Open 2)) ∷ [])
    × (outcome (Up ∷ Go ∷ Cut ∷ Up ∷ Go ∷ Cut ∷ Down ∷ Up ∷ Go ∷ []) 0 ≡ Some Retry)
    × (open_commands (Up ∷ Go ∷ Cut ∷ Up ∷ Go ∷ Cut ∷ []) ≡ 0 ∷ 1 ∷ [])
cut_keeps_commands_until_the_giving_up = (refl, refl, refl)

-- orders 0 to 3: an early answer to order 2 doesn't count, and order 1 is answered
unanswered_orders_are_pending : map (λ (m : Moment). reply m.past m.event) (pending (Up ∷ Go ∷ Go ∷ A 2 false ∷ Stop 0 ∷ A 1 false ∷ Cut ∷ Up ∷ Go ∷ [])) ≡ Start 0 0 ∷ Interrupt 2 0 ∷ Start 3 2 ∷ []
unanswered_orders_are_pending = refl

nothing_is_pending_in_a_new_session : pending (Up ∷ Go ∷ Down ∷ Up ∷ []) ≡ []
nothing_is_pending_in_a_new_session = refl

-- Names

-- the log `l`
abbrev l : Name
l = 108 ∷ []

-- the log `m`
abbrev m : Name
m = 109 ∷ []

abbrev named : Trace
named = Up ∷ Go ∷ N 0 0 l (120 ∷ 10 ∷ []) ∷ []

named_log_is_there_from_its_first_block : (has_log named 0 stdio ≡ true) × (log named 0 stdio ≡ [])
    × (has_log named 0 l ≡ true) × (log named 0 l ≡ o 120 ∷ []) × (has_log named 0 m ≡ false)
    × (has_log (Up ∷ Go ∷ []) 0 l ≡ false) × (has_log (Up ∷ Go ∷ []) 0 stdio ≡ true) × (has_log (Up ∷ Go ∷ []) 1 stdio ≡ false)
named_log_is_there_from_its_first_block = (refl, refl, refl, refl, refl, refl, refl, refl)

-- the log opens with the first of its two productive places, and has its line after the second
named_log_is_seen_after_two_items : (has_log (visible named 1) 0 l ≡ false) × (log (visible named 2) 0 l ≡ o 120 ∷ [])
named_log_is_seen_after_two_items = (refl, refl)

-- stdout `a`, log `stdio` `s`, stderr `b`
stdio_is_one_log : log (Up ∷ Go ∷ In 0 (Update 0 (with_item stdio (lines_of E (98 ∷ 10 ∷ [])) (with_item stdio (lines_of O (115 ∷ 10 ∷ [])) (with_item stdio (lines_of O (97 ∷ 10 ∷ [])) []))) None) ∷ []) 0 stdio
    ≡ o 97 ∷ o 115 ∷ (record { letter = E; text = 98 ∷ [] }) ∷ []
stdio_is_one_log = refl

block_of_no_line_makes_the_log : (has_log (Up ∷ Go ∷ N 0 0 l [] ∷ []) 0 l ≡ true) × (log (Up ∷ Go ∷ N 0 0 l [] ∷ []) 0 l ≡ [])
block_of_no_line_makes_the_log = (refl, refl)

-- Seen numbers

-- numbers 0, 2 and 1 of command 0, 3 of command 7, 4 of command 0
abbrev heard : Trace
heard = Up ∷ Go ∷ U 0 0 97 ∷ U 2 0 97 ∷ U 1 0 97 ∷ U 3 7 97 ∷ U 4 0 97 ∷ []

seen_numbers_have_their_first_verdicts : map (seen heard) (below 6) ≡ Some Done ∷ Some Done ∷ Some Done ∷ Some NoCommand ∷ Some Done ∷ None ∷ []
seen_numbers_have_their_first_verdicts = refl

seen_numbers_merge_within_a_verdict : IsMerged ((record { first = 0; last = 2; verdict = Done }) ∷ (record { first = 3; last = 3; verdict = NoCommand }) ∷ (record { first = 4; last = 4; verdict = Done }) ∷ [])
seen_numbers_merge_within_a_verdict = (omega arith, (omega arith, λ _ e. cc), (omega arith, (omega arith, λ _ e. cc), omega arith))

ranges_hold_the_seen_numbers : map (verdict_in ((record { first = 0; last = 2; verdict = Done }) ∷ (record { first = 3; last = 3; verdict = NoCommand }) ∷ (record { first = 4; last = 4; verdict = Done }) ∷ [])) (below 9) ≡ map (seen heard) (below 9)
ranges_hold_the_seen_numbers = refl

seen_numbers_stand_over_a_cut : map (seen (heard ++ Cut ∷ [])) (below 6) ≡ map (seen heard) (below 6)
seen_numbers_stand_over_a_cut = refl

no_number_is_seen_while_down : map (seen (heard ++ Down ∷ [])) (below 6) ≡ None ∷ None ∷ None ∷ None ∷ None ∷ None ∷ []
no_number_is_seen_while_down = refl
