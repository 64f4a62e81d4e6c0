-- What a line of a script asks for.
use Rattle.std.specs.Prelude.{ℕ, ◌==◌, Bool, true, List, [], ◌∷◌, take, drop, codes, bytes_eq, Option, Some, None, option_map, if◌then◌else◌}
use Rattle.std.specs.List.{list_any, before_first, after_first}
use Rattle.std.specs.Str.{byte, is_utf8}
use Rattle.bm_decimal.specs.Decimals.{number_of}
use Rattle.bm_lines.specs.Names.{stdio}
use Rattle.bm_replay.specs.declared.script.ReplayRequest.{ReplayRequest}
use Rattle.bm_replay.specs.declared.script.ReplayRequest.TheVariants.{Up, Cut, Down, Go, Stop, Look, Log}
use Rattle.bm_replay.specs.declared.script.ScriptLine.{ScriptLine}
use Rattle.bm_replay.specs.declared.script.ScriptLine.TheVariants.{Blank, In, Drain, Asks, Unknown}

-- what a line asks beside messages and drains
pub data Request : Type 0 where
  up : Request
  cut : Request
  down : Request
  go : Request
  stop : ℕ → Request
  look : (command offset limit : ℕ) → (name : List ℕ) → Request
  log : (command : ℕ) → (name : List ℕ) → Request

-- what a line is
pub data Line : Type 0 where
  blank : Line
  message : (digits : List ℕ) → Line
  drain : Line
  asks : Request → Line
  unknown : Line

-- The word before the first space, and what stands behind that space. Where there is no space, it
-- is the whole text, and nothing stands behind it.
abbrev pub is_space : ℕ → Bool
is_space b = b == byte " "

abbrev pub word_of : List ℕ → List ℕ
word_of text = before_first is_space text

abbrev pub behind : List ℕ → List ℕ
behind text = after_first is_space text

-- the name behind a text's first word, which may be empty; `stdio` where no space stands there
abbrev pub name_behind : List ℕ → List ℕ
name_behind text = if list_any is_space text then behind text else stdio

-- nothing where one of the numbers is none
abbrev pub look_at : Option ℕ → Option ℕ → Option ℕ → List ℕ → Option Request
look_at (Some command) (Some offset) (Some limit) name = Some (look command offset limit name)
look_at command offset limit name = None

abbrev pub log_of : Option ℕ → List ℕ → Option Request
log_of None name = None
log_of (Some command) name = Some (log command name)

-- `K OFFSET LIMIT` or `K OFFSET LIMIT NAME`
abbrev pub look_in : List ℕ → Option Request
look_in text =
    let command = word_of text in
    let offset = word_of (behind text) in
    let last = behind (behind text) in
    look_at (number_of command) (number_of offset) (number_of (word_of last)) (name_behind last)

-- `K` or `K NAME`
abbrev pub log_in : List ℕ → Option Request
log_in text = log_of (number_of (word_of text)) (name_behind text)

-- the requests with numbers behind their first word
abbrev pub words_in : List ℕ → Option Request
words_in text =
    if bytes_eq (word_of text) (codes "stop") then option_map stop (number_of (behind text))
    else if bytes_eq (word_of text) (codes "look") then look_in (behind text)
    else if bytes_eq (word_of text) (codes "log") then log_in (behind text)
    else None

abbrev pub request_in : List ℕ → Option Request
request_in text =
    if bytes_eq text (codes "up") then Some up
    else if bytes_eq text (codes "cut") then Some cut
    else if bytes_eq text (codes "down") then Some down
    else if bytes_eq text (codes "go") then Some go
    else words_in text

-- a line that asks for nothing is unknown
abbrev pub asking : Option Request → Line
asking None = unknown
asking (Some request) = asks request

abbrev pub line_in : List ℕ → Line
line_in text = if bytes_eq text (codes "drain") then drain else asking (request_in text)

-- the line as a text, where it is one
abbrev pub text_in : List ℕ → Option (List ℕ)
text_in line = if is_utf8 line then Some line else None

-- bytes that are no text are unknown
abbrev pub reading : Option (List ℕ) → Line
reading None = unknown
reading (Some text) = line_in text

abbrev pub is_blank : List ℕ → Bool
is_blank [] = true
is_blank (b ∷ line) = b == byte "#"

-- what a line is, without its line end
abbrev pub line_of : List ℕ → Line
line_of line =
    if is_blank line then blank
    else if bytes_eq (take 3 line) (codes "in ") then message (drop 3 line)
    else reading (text_in line)

-- what a request that was read asks
abbrev pub asked : ReplayRequest → Request
asked Up = up
asked Cut = cut
asked Down = down
asked Go = go
asked (Stop command) = stop command
asked (Look command offset limit name) = look command offset limit name.now
asked (Log command name) = log command name.now

-- what a line that was read is
abbrev pub told : ScriptLine → Line
told Blank = blank
told (In digits) = message digits.now
told Drain = drain
told (Asks request) = asks (asked request)
told Unknown = unknown
