-- By which texts what a worker's commands started is found.
use Rattle.std.specs.Prelude.{◌≡◌, ◌==◌, ℕ, List, ◌++◌, codes, decimal, length, IfSome, Option, Some, None}
use Rattle.std.specs.List.{after_first, before_first}
use Rattle.std.specs.Str.{byte}
use Rattle.hex.specs.Hex.{encode_lower}

-- The marks of the worker that this one is a command of. What the marks of its user's workers begin
-- with, and what its own begin with.
pub record MarkTexts : Type 0 where
  pub outer : List ℕ
  pub place : Option (List ℕ)
  pub worker : List ℕ

-- A process is looked for by its worker's text and its number. The dot behind it keeps the mark of
-- process 1 from being found in that of process 10.
abbrev pub mark_of : MarkTexts → ℕ → List ℕ
mark_of marks number = marks.worker ++ (decimal number ++ codes ".")

-- what a process is given, so that an outer worker finds it too
abbrev pub value_of : MarkTexts → ℕ → List ℕ
value_of marks number = marks.outer ++ mark_of marks number

abbrev pub text_or : Option (List ℕ) → List ℕ → List ℕ
text_or (Some text) other = text
text_or None other = other

-- between the first bracket and the next one that ends it
abbrev pub namespace_in : List ℕ → List ℕ
namespace_in link =
    before_first (λ b. b == byte "]") (after_first (λ b. b == byte "[") link)

-- what the marks of a user's workers begin with, in a namespace of processes
abbrev pub place_text : List ℕ → List ℕ → List ℕ
place_text namespace user = codes "buildworker-" ++ (namespace ++ (codes "." ++ (user ++ codes ".")))

-- the number of a process, and when it was started
abbrev pub process_text : List ℕ → List ℕ → List ℕ
process_text number start = number ++ (codes "." ++ (start ++ codes "."))

abbrev pub IsPlace : List ℕ → Type 0
IsPlace text = (namespace : List ℕ) × (user : List ℕ) × (text ≡ place_text namespace user)

abbrev pub IsProcess : List ℕ → Type 0
IsProcess text = (number : List ℕ) × (start : List ℕ) × (text ≡ process_text number start)

-- All marks of a worker begin with its place, its process, 32 hex digits of 16 bytes, and a dot.
-- Zeros stand for what the system doesn't tell.
abbrev pub AreNew : MarkTexts → Type 0
AreNew marks = (process : Option (List ℕ)) × (bytes : List ℕ) × IfSome marks.place IsPlace
    × IfSome process IsProcess × (length bytes ≡ 16)
    × (marks.worker ≡ text_or marks.place (codes "buildworker-0.0.")
    ++ (text_or process (codes "0.0.") ++ (encode_lower bytes ++ codes ".")))
