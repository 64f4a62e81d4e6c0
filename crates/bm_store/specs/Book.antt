-- What items make of a book of logs, and what a book answers.
use Rattle.std.specs.Prelude.{ℕ, zero, suc, ◌==◌, ◌+◌, ◌-◌, ◌^◌, min, if◌then◌else◌, List, [], ◌∷◌, ◌++◌, length, map, Option, Some, None, is_none, fold, Bool, ◌||◌, not, bytes_eq, slice_get, option_and_then}
use Rattle.std.specs.List.{sum_by}
use Rattle.bm_lines.specs.Names.{Name, stdio}
use Rattle.bm_lines.specs.Lines.{Line, content_of}
use Rattle.bm_lines.specs.LineBatches.{blocks_under}
use Rattle.bm_lines.specs.declared.line_batch.LogLines.{LogLines}
use Rattle.bm_session.specs.declared.item.Item.{Item}
use Rattle.bm_session.specs.declared.item.Item.TheVariants.{Open, Lines, End, Gone}
use Rattle.bm_session.specs.declared.results.Results.{Results}
use Rattle.bm_session.specs.declared.results.Results.TheVariants.{Retry}
use Rattle.bm_session.specs.Trace.{Trace, blocks, outcome, commands, below, is_empty, joined, slice}
use Rattle.bm_store.specs.declared.placed.Placed.{Placed}
use Rattle.bm_store.specs.declared.chunk.Chunk.{Chunk}
use Rattle.bm_store.specs.declared.chunk.LogState.{LogState}

-- the logs of one command: the blocks of each, by its name; and how the command ended
pub record Logs : Type 0 where
  pub blocks : Name → List (List Line)
  pub ended : Option Results

-- those of a command that was just started
abbrev pub no_logs : Logs
no_logs = record { blocks = λ _. []; ended = None }

-- with a batch more, where the command is open
abbrev pub with_batch : List LogLines → Logs → Logs
with_batch batch l =
    if is_none l.ended
    then record { blocks = λ name. l.blocks name ++ blocks_under name batch; ended = None }
    else l

-- ended, where the command is open
abbrev pub with_end : Results → Logs → Logs
with_end r l = if is_none l.ended then record { blocks = l.blocks; ended = Some r } else l

-- the list with f of the element at place k, if there is one
abbrev pub change_at : {A : Type 0} → ℕ → (A → A) → List A → List A
change_at k f [] = []
change_at zero f (x ∷ xs) = f x ∷ xs
change_at (suc k) f (x ∷ xs) = x ∷ change_at k f xs

-- the logs of each command, after one item more
abbrev pub after_item : List Logs → Item → List Logs
after_item book (Open k) = if k == length book then book ++ no_logs ∷ [] else book
after_item book (Lines k batch) = change_at k (with_batch batch) book
after_item book (End k r) = change_at k (with_end r) book
after_item book Gone = map (with_end Retry) book

-- the logs of each command after items
abbrev pub book : List Item → List Logs
book is = fold after_item [] is

-- what the trace says of command k
abbrev pub logs_of : Trace → ℕ → Logs
logs_of t k = record { blocks = blocks t k; ended = outcome t k }

-- and of each command
abbrev pub logs : Trace → List Logs
logs t = map (logs_of t) (below (commands t))

-- a log of the command is there: `stdio` always, another from its first block
abbrev pub is_there : Name → Logs → Bool
is_there name l = bytes_eq name stdio || not (is_empty (l.blocks name))

-- blocks, each with the number of lines before it, where n lines stand before the first
abbrev pub placed_after : ℕ → List (List Line) → List Placed
placed_after n [] = []
placed_after n (b ∷ bs) = record { first = n; block = b } ∷ placed_after (n + length b) bs

abbrev pub placed : List (List Line) → List Placed
placed bs = placed_after 0 bs

-- the blocks of a log with their places, where it is there
abbrev pub placed_log : Name → Logs → Option (List Placed)
placed_log name l = if is_there name l then Some (placed (l.blocks name)) else None

-- how many lines a log has, as far as 64 bits count, and how its command ended
abbrev pub state_log : Name → Logs → Option LogState
state_log name l =
    if is_there name l
    then Some (record {
      lines = min (length (joined (l.blocks name))) (2 ^ 64 - 1);
      ended = l.ended;
    }) else None

-- the asked lines of a log
abbrev pub chunk_log : Name → ℕ → ℕ → Logs → Option (List Line)
chunk_log name off lim l =
    if is_there name l then Some (slice (joined (l.blocks name)) off lim) else None

-- all lines of a log
abbrev pub lines_log : Name → Logs → Option (List Line)
lines_log name l = if is_there name l then Some (joined (l.blocks name)) else None

-- what a book answers for the log of command k under a name: none where it is not there
abbrev pub placed_in : List Logs → ℕ → Name → Option (List Placed)
placed_in ls k name = option_and_then (placed_log name) (slice_get ls k)

abbrev pub state_in : List Logs → ℕ → Name → Option LogState
state_in ls k name = option_and_then (state_log name) (slice_get ls k)

abbrev pub chunk_in : List Logs → ℕ → Name → ℕ → ℕ → Option (List Line)
chunk_in ls k name off lim = option_and_then (chunk_log name off lim) (slice_get ls k)

abbrev pub lines_in_log : List Logs → ℕ → Name → Option (List Line)
lines_in_log ls k name = option_and_then (lines_log name) (slice_get ls k)

-- how many lines the logs `stdio` of all commands have together, as far as 64 bits count
abbrev pub stdio_lines_in : List Logs → ℕ
stdio_lines_in ls = min (sum_by (λ (l : Logs). length (joined (l.blocks stdio))) ls) (2 ^ 64 - 1)

-- how the asked lines are answered: the place that was asked, how many they are, and their text
abbrev pub chunk_of : ℕ → List Line → Chunk
chunk_of off ls = record { first_line = off; lines = length ls; content = content_of ls }

-- the blocks of a log, none where it is not there
abbrev pub blocks_of_log : Name → Option Logs → List (List Line)
blocks_of_log name (Some l) = l.blocks name
blocks_of_log name None = []

abbrev pub blocks_in : List Logs → ℕ → Name → List (List Line)
blocks_in ls k name = blocks_of_log name (slice_get ls k)
