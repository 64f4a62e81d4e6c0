-- What a port tells of the steps that it started.
use Rattle.std.specs.Prelude.{◌≡◌, ℕ, ◌+◌, ◌<◌, ◌^◌, List, [], ◌∷◌, ◌++◌, Some, None}
use Rattle.bm_runner.specs.declared.port.Told.{Told}
use Rattle.bm_runner.specs.declared.port.Polled.{Polled}
use Rattle.bm_runner.specs.declared.port.Polled.TheVariants.{Running, Cancel, Ended}

-- a command that was started, and not asked for yet
abbrev pub first_entry : ℕ → Told
first_entry k = record { k = k; polls = 0; ended = None }

-- an entry after its command was asked for once more
abbrev pub asked : Told → Polled → Told
asked entry Running = record { k = entry.k; polls = entry.polls + 1; ended = entry.ended }
asked entry Cancel = record { k = entry.k; polls = entry.polls + 1; ended = entry.ended }
asked entry (Ended outcome) = record { k = entry.k; polls = entry.polls + 1; ended = Some outcome }

-- the last entry is the command's, has no end, and can be asked for once more
pub record IsAsking (told : List Told) (k : ℕ) : Type 0 where
  pub before : List Told
  pub polls : ℕ
  pub last : told ≡ before ++ record { k = k; polls = polls; ended = None } ∷ []
  pub few : polls + 1 < 2 ^ 64
