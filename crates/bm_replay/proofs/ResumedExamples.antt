-- Resumed schedules that compute: good ones, and what is none.
use Rattle.std.specs.Prelude.{◌≡◌, refl, ℕ, true, false, List, [], ◌∷◌, ◌++◌, pos, codes}
use Rattle.std.specs.List.{list_any}
use Rattle.bm_lines.specs.declared.letter.Letter.TheVariants.{O}
use Rattle.bm_lines.specs.Lines.{Line}
use Rattle.bm_lines.specs.Names.{stdio}
use Rattle.bm_session.specs.declared.event.Event.TheVariants.{Up, Go, Cut, Down}
use Rattle.bm_session.specs.Events.{is_down_event}
use Rattle.bm_session.specs.Trace.{log, visible, productive}
use Rattle.bm_work.specs.Core.{numbers}
use Rattle.bm_work.specs.declared.sent.Finish.TheVariants.{Rc}
use Rattle.bm_work.specs.Stream.{said}
use Rattle.bm_world.specs.declared.step.Step.TheVariants.{Hear, Drain}
use Rattle.bm_replay.specs.Schedule.{Run, Say, Finish, Deliver, Respond, Make, reported}
use Rattle.bm_replay.specs.Resumed.{Linked, Happening, Do, Learn, is_resumed_schedule, linked_after, at_first, unanswered, acts_of}

abbrev up : Happening
up = Do (Make (Hear Up))

abbrev start : Happening
start = Do (Make (Hear Go))

abbrev cut : Happening
cut = Do (Make (Hear Cut))

abbrev drain : Happening
drain = Do (Make Drain)

abbrev run : ℕ → Happening
run k = Do (Run k)

abbrev say : ℕ → List ℕ → Happening
say k text = Do (Say k O text)

abbrev deliver : ℕ → Happening
deliver n = Do (Deliver n)

abbrev line : List ℕ → Line
line text = record { letter = O; text = text }

-- what stands after them, with room for eight items
abbrev reached : List Happening → Linked
reached ps = linked_after (at_first 8) ps

-- the cut loses the answer to request 1, and all of request 2: both are sent again, and 1 is a
-- repeat
abbrev before_the_cut : List Happening
before_the_cut =
    up ∷ start ∷ run 0 ∷ Do (Respond 0 false) ∷ say 0 (codes "a\n") ∷ say 0 (codes "b\n") ∷ say 0 (codes "c\n")
    ∷ deliver 0 ∷ Learn 0 ∷ deliver 1 ∷ cut ∷ say 0 (codes "d\n") ∷ []

abbrev over_a_cut : List Happening
over_a_cut =
    before_the_cut ++ up ∷ deliver 1 ∷ deliver 2 ∷ Learn 1 ∷ Do (Finish 0 (Rc (pos 0))) ∷ deliver 3 ∷ deliver 4 ∷ Learn 2 ∷ Learn 3 ∷ deliver 5 ∷ Learn 4 ∷ Learn 5
    ∷ drain ∷ drain ∷ drain ∷ drain ∷ drain ∷ drain ∷ drain ∷ []

over_a_cut_is_one : is_resumed_schedule 8 over_a_cut ≡ true
over_a_cut_is_one = refl

sent_again : numbers (reached (before_the_cut ++ up ∷ [])).link.sent ≡ 1 ∷ 2 ∷ 3 ∷ []
sent_again = refl

nothing_is_unanswered : unanswered (reached over_a_cut) ≡ []
nothing_is_unanswered = refl

nothing_was_given_up : list_any is_down_event (reached over_a_cut).scene.lane.trace ≡ false
nothing_was_given_up = refl

it_is_drained : (reached over_a_cut).scene.lane.shown ≡ productive (reached over_a_cut).scene.lane.trace
it_is_drained = refl

viewers_see_each_line_once : log (visible (reached over_a_cut).scene.lane.trace (reached over_a_cut).scene.lane.shown) 0 stdio ≡ line (codes "a") ∷ line (codes "b") ∷ line (codes "c") ∷ line (codes "d") ∷ []
viewers_see_each_line_once = refl

they_see_what_was_said : log (visible (reached over_a_cut).scene.lane.trace (reached over_a_cut).scene.lane.shown) 0 stdio ≡ said (reported (acts_of over_a_cut)) 0
they_see_what_was_said = refl

-- the answer lies in the worker's socket when the lane is cut: it is learned after the cut, and
-- its request isn't sent again
abbrev learned_after_the_cut : List Happening
learned_after_the_cut =
    up ∷ start ∷ run 0 ∷ say 0 (codes "a\n") ∷ say 0 (codes "b\n") ∷ deliver 0 ∷ deliver 1 ∷ Learn 0 ∷ cut ∷ Learn 1 ∷ say 0 (codes "c\n") ∷ up ∷ []

learned_after_the_cut_is_one : is_resumed_schedule 8 (learned_after_the_cut ++ deliver 2 ∷ []) ≡ true
learned_after_the_cut_is_one = refl

answered_is_not_sent_again : numbers (reached learned_after_the_cut).link.sent ≡ 2 ∷ []
answered_is_not_sent_again = refl

each_line_is_logged_once : log (reached (learned_after_the_cut ++ deliver 2 ∷ [])).scene.lane.trace 0 stdio ≡ line (codes "a") ∷ line (codes "b") ∷ line (codes "c") ∷ []
each_line_is_logged_once = refl

-- a new request after a resuming Up under a number that was had: none; with the next number it is
-- one
abbrev one_line_and_a_cut : List Happening
one_line_and_a_cut = up ∷ start ∷ run 0 ∷ say 0 (codes "a\n") ∷ deliver 0 ∷ Learn 0 ∷ cut ∷ up ∷ say 0 (codes "b\n") ∷ []

numbered_afresh_is_none : is_resumed_schedule 8 (one_line_and_a_cut ++ deliver 0 ∷ []) ≡ false
numbered_afresh_is_none = refl

numbered_on_is_one : is_resumed_schedule 8 (one_line_and_a_cut ++ deliver 1 ∷ []) ≡ true
numbered_on_is_one = refl

-- an unanswered request is passed over after the cut
passed_over_is_none : is_resumed_schedule 8 (up ∷ start ∷ run 0 ∷ say 0 (codes "a\n") ∷ cut ∷ say 0 (codes "b\n") ∷ up ∷ deliver 1 ∷ []) ≡ false
passed_over_is_none = refl

-- a request comes twice over one connection, or a later one before an earlier one
twice_is_none : is_resumed_schedule 8 (up ∷ start ∷ run 0 ∷ say 0 (codes "a\n") ∷ deliver 0 ∷ deliver 0 ∷ []) ≡ false
twice_is_none = refl

hole_is_none : is_resumed_schedule 8 (up ∷ start ∷ run 0 ∷ say 0 (codes "a\n") ∷ say 0 (codes "b\n") ∷ deliver 1 ∷ []) ≡ false
hole_is_none = refl

-- the worker learns an answer that the cut lost over the next connection, or one before its
-- request was taken
lost_answer_is_none : is_resumed_schedule 8 (up ∷ start ∷ run 0 ∷ say 0 (codes "a\n") ∷ deliver 0 ∷ cut ∷ up ∷ Learn 0 ∷ []) ≡ false
lost_answer_is_none = refl

early_answer_is_none : is_resumed_schedule 8 (up ∷ start ∷ run 0 ∷ say 0 (codes "a\n") ∷ Learn 0 ∷ []) ≡ false
early_answer_is_none = refl

-- a session that was given up: the next one numbers from 0, and nothing of the old one is sent
-- again
abbrev given_up : List Happening
given_up = up ∷ start ∷ run 0 ∷ say 0 (codes "a\n") ∷ cut ∷ Do (Make (Hear Down)) ∷ up ∷ start ∷ run 1 ∷ say 1 (codes "n\n") ∷ deliver 0 ∷ []

given_up_is_one : is_resumed_schedule 8 given_up ≡ true
given_up_is_one = refl

only_new_ones_are_sent : numbers (reached given_up).link.sent ≡ 0 ∷ []
only_new_ones_are_sent = refl

new_session_logs : log (reached given_up).scene.lane.trace 1 stdio ≡ line (codes "n") ∷ []
new_session_logs = refl
