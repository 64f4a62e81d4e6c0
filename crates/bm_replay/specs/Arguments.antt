-- What the words of the command line ask for.
use Rattle.std.specs.Prelude.{ℕ, List, [], ◌∷◌, codes, bytes_eq, Option, Some, None, option_map, if◌then◌else◌}
use Rattle.bm_replay.specs.Capacities.{capacity_of}
use Rattle.bm_replay.specs.declared.arguments.MasterArguments.{MasterArguments}
use Rattle.bm_replay.specs.declared.arguments.MasterArguments.TheVariants.{Replay, Serve}

-- a replay over a queue of so many items, or the master of the configuration in this file
pub data Asked : Type 0 where
  replay : ℕ → Asked
  serve : List ℕ → Asked

-- What the words ask for, behind the program's name. `replay` alone has a capacity of 4; `replay`
-- and a capacity has that one; `serve` has a file. All other words ask for nothing.
abbrev pub asked_by : List (List ℕ) → Option Asked
asked_by (program ∷ job ∷ []) = if bytes_eq job (codes "replay") then Some (replay 4) else None
asked_by (program ∷ job ∷ word ∷ []) =
    if bytes_eq job (codes "replay") then option_map replay (capacity_of word)
    else if bytes_eq job (codes "serve") then Some (serve word)
    else None
asked_by words = None

-- what arguments ask for
abbrev pub asked_in : MasterArguments → Asked
asked_in (Replay capacity) = replay capacity.items
asked_in (Serve file) = serve file.now
