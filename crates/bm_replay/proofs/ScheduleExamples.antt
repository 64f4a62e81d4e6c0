-- Schedules that compute: good ones, and what is none. Each that is none breaks one condition
-- alone, and the log shows why the condition is there.
use Rattle.std.specs.Prelude.{◌≡◌, refl, ℕ, true, false, List, [], ◌∷◌, ◌++◌, pos, codes, length}
use Rattle.bm_lines.specs.declared.letter.Letter.TheVariants.{O}
use Rattle.bm_lines.specs.Lines.{Line}
use Rattle.bm_lines.specs.Names.{stdio}
use Rattle.bm_session.specs.declared.event.Event.TheVariants.{Up, Go, Cut, Down}
use Rattle.bm_session.specs.Trace.{log}
use Rattle.bm_work.specs.declared.sent.Finish.TheVariants.{Rc, Fault}
use Rattle.bm_work.specs.Stream.{said}
use Rattle.bm_world.specs.declared.step.Step.TheVariants.{Hear, Drain}
use Rattle.bm_replay.specs.Schedule.{Act, Run, Say, Finish, Deliver, Respond, Make, is_schedule, is_over, scene_after, opening, reported, requests_taken}

abbrev up : Act
up = Make (Hear Up)

abbrev start : Act
start = Make (Hear Go)

-- the worker says a line for command k
abbrev say : ℕ → List ℕ → Act
say k text = Say k O text

abbrev line : List ℕ → Line
line text = record { letter = O; text = text }

-- the log of command k after the acts, with room for eight items
abbrev logged : List Act → ℕ → List Line
logged acts k = log (scene_after (opening 8) acts).lane.trace k stdio

-- of three texts the second is taken twice, over a cut
abbrev over_a_cut : List Act
over_a_cut =
    up ∷ start ∷ Run 0 ∷ Respond 0 false ∷ say 0 (codes "a\n") ∷ say 0 (codes "b\n") ∷ Deliver 0 ∷ Deliver 1 ∷ Make (Hear Cut) ∷ say 0 (codes "c\n")
    ∷ up ∷ Deliver 1 ∷ Deliver 2 ∷ Finish 0 (Rc (pos 0)) ∷ Deliver 3 ∷ Deliver 4 ∷ Make Drain ∷ []

over_a_cut_is_a_schedule : is_schedule 8 over_a_cut ≡ true
over_a_cut_is_a_schedule = refl

each_line_once : logged over_a_cut 0 ≡ line (codes "a") ∷ line (codes "b") ∷ line (codes "c") ∷ []
each_line_once = refl

all_of_it : logged over_a_cut 0 ≡ said (reported over_a_cut) 0
all_of_it = refl

-- a loss, and then another session, which numbers afresh
abbrev two_sessions : List Act
two_sessions =
    up ∷ start ∷ Run 0 ∷ say 0 (codes "a\n") ∷ Deliver 0 ∷ say 0 (codes "b\n") ∷ Make (Hear Down)
    ∷ up ∷ start ∷ Run 1 ∷ say 1 (codes "n\n") ∷ Deliver 0 ∷ []

two_sessions_are_a_schedule : is_schedule 8 two_sessions ≡ true
two_sessions_are_a_schedule = refl

first_is_a_prefix : logged two_sessions 0 ++ line (codes "b") ∷ [] ≡ said (reported two_sessions) 0
first_is_a_prefix = refl

second_is_whole : logged two_sessions 1 ≡ said (reported two_sessions) 1
second_is_whole = refl

-- a full queue takes nothing: the request is delivered again
abbrev full_queue : List Act
full_queue = up ∷ start ∷ Run 0 ∷ say 0 (codes "a\n") ∷ Deliver 0 ∷ Make Drain ∷ Deliver 0 ∷ []

full_queue_is_a_schedule : is_schedule 1 full_queue ≡ true
full_queue_is_a_schedule = refl

taken_at_last : log (scene_after (opening 1) full_queue).lane.trace 0 stdio ≡ said (reported full_queue) 0
taken_at_last = refl

-- a hole: the second request comes before the first one was taken
abbrev hole : List Act
hole = up ∷ start ∷ Run 0 ∷ say 0 (codes "a\n") ∷ say 0 (codes "b\n") ∷ Deliver 1 ∷ []

hole_is_none : is_schedule 8 hole ≡ false
hole_is_none = refl

hole_loses_a_line : logged hole 0 ≡ line (codes "b") ∷ []
hole_loses_a_line = refl

-- the start of a command that ran is refused: all is taken, and nothing is logged
abbrev refused_though_it_ran : List Act
refused_though_it_ran = up ∷ start ∷ Run 0 ∷ say 0 (codes "a\n") ∷ Respond 0 true ∷ Deliver 0 ∷ []

refused_though_it_ran_is_none : is_schedule 8 refused_though_it_ran ≡ false
refused_though_it_ran_is_none = refl

refusal_loses_all : logged refused_though_it_ran 0 ≡ []
refusal_loses_all = refl

all_was_taken : requests_taken (scene_after (opening 8) refused_though_it_ran).lane.trace ≡ length (scene_after (opening 8) refused_though_it_ran).worker.reports
all_was_taken = refl

-- a command that was refused runs
runs_though_refused_is_none : is_schedule 8 (up ∷ start ∷ Respond 0 true ∷ Run 0 ∷ []) ≡ false
runs_though_refused_is_none = refl

-- the refusal of a command that the worker never runs
refused_command_is_fine : is_schedule 8 (up ∷ start ∷ Respond 0 true ∷ start ∷ Run 1 ∷ say 1 (codes "a\n") ∷ Deliver 0 ∷ []) ≡ true
refused_command_is_fine = refl

-- a command runs before its start was taken, in a later session, twice, or says something after
-- its end
unstarted_is_none : is_schedule 8 (up ∷ Run 0 ∷ []) ≡ false
unstarted_is_none = refl

in_a_later_session_is_none : is_schedule 8 (up ∷ start ∷ Make (Hear Down) ∷ up ∷ Run 0 ∷ []) ≡ false
in_a_later_session_is_none = refl

twice_is_none : is_schedule 8 (up ∷ start ∷ Run 0 ∷ Finish 0 (Fault (codes "x")) ∷ Run 0 ∷ []) ≡ false
twice_is_none = refl

after_its_end_is_none : is_schedule 8 (up ∷ start ∷ Run 0 ∷ Finish 0 (Rc (pos 0)) ∷ say 0 (codes "a\n") ∷ []) ≡ false
after_its_end_is_none = refl

-- a session is over where none follows or another one begins, and not where it goes on
abbrev one_line : List Act
one_line = up ∷ start ∷ Run 0 ∷ say 0 (codes "a\n") ∷ Deliver 0 ∷ []

goes_on : is_over (scene_after (opening 8) one_line) (say 0 (codes "b\n") ∷ []) ≡ false
goes_on = refl

is_resumed : is_over (scene_after (opening 8) (one_line ++ Make (Hear Cut) ∷ [])) (up ∷ []) ≡ false
is_resumed = refl

another_begins : is_over (scene_after (opening 8) (one_line ++ Make (Hear Down) ∷ [])) (up ∷ []) ≡ true
another_begins = refl

-- what is said after a loss is not taken
said_after_a_loss : logged (up ∷ start ∷ Run 0 ∷ Make (Hear Down) ∷ say 0 (codes "a\n") ∷ Deliver 0 ∷ []) 0 ≡ []
said_after_a_loss = refl
