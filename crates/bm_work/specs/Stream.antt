-- What a worker says of its commands: its requests, numbered in the order in which it says them.
use Rattle.std.specs.Prelude.{ℕ, ◌+◌, ◌==◌, ℤ, not, List, [], ◌∷◌, Option, if◌then◌else◌, filter, flat_map}
use Rattle.std.specs.List.{list_any}
use Rattle.bm_lines.specs.declared.letter.Letter.{Letter}
use Rattle.bm_lines.specs.Lines.{Line, lines_of}
use Rattle.bm_value.specs.Writing.{written}
use Rattle.bm_msg.specs.declared.field.Field.TheVariants as field
use Rattle.bm_msg.specs.Meaning.{Asked, update, complete, request}
use Rattle.bm_msg.specs.Trees.{tree_of}
use Rattle.bm_work.specs.declared.sent.Sent.{Sent}

-- what a worker reports of a command: a text of it, its exit code, or its end, where it went wrong
-- with a fault
pub data Report : Type 0 where
  text : (command : ℕ) (letter : Letter) (text : List ℕ) → Report
  code : (command : ℕ) (code : ℤ) → Report
  over : (command : ℕ) (fault : Option (List ℕ)) → Report

-- a text and an exit code are an update of one item, and an end is a complete
abbrev pub asked_by : Report → Asked
asked_by (text k letter t) = update k (field.Text letter t ∷ [])
asked_by (code k z) = update k (field.Rc z ∷ [])
asked_by (over k fault) = complete k fault

-- the bytes of the request with number n
unfoldable pub request_bytes : ℕ → Asked → List ℕ
request_bytes n asked = written (tree_of (request n asked))

abbrev pub sent : ℕ → Report → Sent
sent n r = record { seq = n; bytes = request_bytes n (asked_by r) }

-- the requests of these reports, where the first has number n
abbrev pub stream_from : ℕ → List Report → List Sent
stream_from n [] = []
stream_from n (r ∷ rs) = sent n r ∷ stream_from (n + 1) rs

-- the requests of a session
abbrev pub stream : List Report → List Sent
stream reports = stream_from 0 reports

-- of these requests, those whose number has no answer, in their order
abbrev pub without_answer : List ℕ → List Sent → List Sent
without_answer answered requests = filter
    (λ (s : Sent). not (list_any (λ n. n == s.seq) answered)) requests

-- the lines of a text of command k
abbrev pub lines_in : ℕ → Report → List Line
lines_in k (text j letter t) = if j == k then lines_of letter t else []
lines_in k _ = []

-- the lines of the texts that were said for command k, joined in order
abbrev pub said : List Report → ℕ → List Line
said reports k = flat_map (lines_in k) reports
