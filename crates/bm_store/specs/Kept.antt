-- The book as it lies in memory: lists, in the place of maps from names.
use Rattle.std.specs.Prelude.{Bool, true, ◌&&◌, nat_le, ◌-◌, ◌==◌, is_none, List, [], ◌∷◌, ◌++◌, length, take, map, fold, Option, Some, None, bytes_eq, if◌then◌else◌}
use Rattle.bm_lines.specs.Names.{Name}
use Rattle.bm_lines.specs.Lines.{Line}
use Rattle.bm_lines.specs.declared.line_batch.LogLines.{LogLines}
use Rattle.bm_session.specs.declared.item.Item.{Item}
use Rattle.bm_session.specs.declared.item.Item.TheVariants.{Open, Lines, End, Gone}
use Rattle.bm_session.specs.declared.results.Results.{Results}
use Rattle.bm_session.specs.declared.results.Results.TheVariants.{Retry}
use Rattle.bm_store.specs.Book.{Logs, change_at}

-- one log: its name, and its blocks
pub record Named : Type 0 where
  pub name : Name
  pub blocks : List (List Line)

-- the logs of one command that have a block, and how the command ended
pub record Kept : Type 0 where
  pub named : List Named
  pub ended : Option Results

-- the names of the logs
abbrev pub names_kept : List Named → List Name
names_kept ls = map (λ (l : Named). l.name) ls

-- the blocks of the first log with the name: none where there is no such log
abbrev pub blocks_of : List Named → Name → List (List Line)
blocks_of [] name = []
blocks_of (l ∷ ls) name = if bytes_eq l.name name then l.blocks else blocks_of ls name

-- what these lists mean
abbrev pub logs_kept : Kept → Logs
logs_kept c = record { blocks = blocks_of c.named; ended = c.ended }

abbrev pub logs_in : List Kept → List Logs
logs_in cs = map logs_kept cs

-- the logs with one block more under a name
abbrev pub with_block : Name → List Line → List Named → List Named
with_block name block [] = record { name = name; blocks = block ∷ [] } ∷ []
with_block name block (l ∷ ls) =
    if bytes_eq l.name name then record { name = l.name; blocks = l.blocks ++ block ∷ [] } ∷ ls
    else l ∷ with_block name block ls

-- and with the blocks of parts, in order
abbrev pub with_parts : List LogLines → List Named → List Named
with_parts ps ls = fold (λ xs (p : LogLines). with_block p.name p.block xs) ls ps

-- the logs without the last block under a name
abbrev pub without_block : Name → List Named → List Named
without_block name [] = []
without_block name (l ∷ ls) =
    if bytes_eq l.name name
    then if nat_le (length l.blocks) 1 then ls
    else record { name = l.name; blocks = take (length l.blocks - 1) l.blocks } ∷ ls
    else l ∷ without_block name ls

-- each log has a block
abbrev pub have_blocks : List Named → Bool
have_blocks [] = true
have_blocks (l ∷ ls) = nat_le 1 (length l.blocks) && have_blocks ls

-- a command that was just started
abbrev pub nothing_kept : Kept
nothing_kept = record { named = []; ended = None }

-- with a batch more, where the command is open
abbrev pub kept_with_batch : List LogLines → Kept → Kept
kept_with_batch batch c =
    if is_none c.ended then record { named = with_parts batch c.named; ended = None } else c

-- ended, where the command is open
abbrev pub kept_with_end : Results → Kept → Kept
kept_with_end r c = if is_none c.ended then record { named = c.named; ended = Some r } else c

-- each command, after one item more
abbrev pub kept_after : List Kept → Item → List Kept
kept_after cs (Open k) = if k == length cs then cs ++ nothing_kept ∷ [] else cs
kept_after cs (Lines k batch) = change_at k (kept_with_batch batch) cs
kept_after cs (End k r) = change_at k (kept_with_end r) cs
kept_after cs Gone = map (kept_with_end Retry) cs
