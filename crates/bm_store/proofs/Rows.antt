-- Worked books, which compute.
use Rattle.std.specs.Prelude.{◌≡◌, refl, ℕ, List, [], ◌∷◌, Some, None, map, codes}
use Rattle.bm_lines.specs.Names.{Name, stdio}
use Rattle.bm_lines.specs.Lines.{Line, lines_of}
use Rattle.bm_lines.specs.declared.letter.Letter.TheVariants.{O}
use Rattle.bm_session.specs.declared.item.Item.{Item}
use Rattle.bm_session.specs.declared.item.Item.TheVariants.{Open, Lines, End, Gone}
use Rattle.bm_session.specs.declared.results.Results.TheVariants.{Success, Failure, Retry}
use Rattle.bm_store.specs.Book.{book, placed_in, chunk_in, chunk_of, state_in}

-- lines of command 0, by a text of a log
abbrev named : Name → List ℕ → Item
named name text = Lines 0 (record { name = name; block = lines_of O text } ∷ [])

abbrev line : List ℕ → Line
line text = record { letter = O; text = text }

-- a block of two lines, of none, and of three
abbrev five : List Item
five = Open 0 ∷ named stdio (codes "a\nb\n") ∷ named stdio [] ∷ named stdio (codes "c\nd\ne\n") ∷ []

each_block_has_its_place : placed_in (book five) 0 stdio
    ≡ Some ((record { first = 0; block = lines_of O (codes "a\nb\n") }) ∷ (record { first = 2; block = [] }) ∷ (record { first = 2; block = lines_of O (codes "c\nd\ne\n") }) ∷ [])
each_block_has_its_place = refl

slices_run_over_blocks : (chunk_in (book five) 0 stdio 1 3 ≡ Some (line (codes "b") ∷ line (codes "c") ∷ line (codes "d") ∷ []))
    × (chunk_in (book five) 0 stdio 2 1 ≡ Some (line (codes "c") ∷ [])) × (chunk_in (book five) 0 stdio 5 1 ≡ Some [])
    × (state_in (book five) 0 stdio ≡ Some (record { lines = 5; ended = None }))
slices_run_over_blocks = (refl, refl, refl, refl)

-- the offset is answered as it was asked, also behind the end
chunk_has_its_text : chunk_of 1 (line (codes "b") ∷ line (codes "c") ∷ []) ≡ record { first_line = 1; lines = 2; content = codes "ob\noc\n" }
chunk_has_its_text = refl

-- `stdio` is there from the start of a command, another log from its first block, of no line too
named_log_is_there_from_its_first_block : (placed_in [] 0 stdio ≡ None) × (placed_in (book (Open 0 ∷ [])) 0 stdio ≡ Some []) × (placed_in (book (Open 0 ∷ [])) 0 (codes "l") ≡ None)
    × (chunk_in (book (Open 0 ∷ named (codes "l") [] ∷ [])) 0 (codes "l") 0 9 ≡ Some [])
named_log_is_there_from_its_first_block = (refl, refl, refl, refl)

-- what doesn't count changes nothing, and a loss ends each open command
only_open_commands_change : map (λ k. state_in (book (named stdio (codes "a\n") ∷ Open 1 ∷ Open 0 ∷ Open 1 ∷ End 0 Success ∷ Open 2 ∷ Gone ∷ End 1 Failure ∷ named stdio (codes "a\n") ∷ [])) k stdio) (0 ∷ 1 ∷ 2 ∷ 3 ∷ [])
    ≡ Some (record { lines = 0; ended = Some Success }) ∷ Some (record { lines = 0; ended = Some Retry }) ∷ Some (record { lines = 0; ended = Some Retry }) ∷ None ∷ []
only_open_commands_change = refl
