-- For clauses inside the crate: the tokens of JSON that pages are.
use Rattle.std.specs.Prelude.{ℕ, List, [], ◌∷◌, ◌++◌, Bool, codes, decimal}
use Rattle.json.specs.Token.{Token, begin_object, end_object, begin_array, end_array, key, string, number, boolean}

-- the beginning of a page that has one object under this key
abbrev pub first_tokens : List ℕ → List Token
first_tokens name = begin_object ∷ key name ∷ begin_array ∷ begin_object ∷ []

-- the end of that object and of the page
abbrev pub last_tokens : List Token
last_tokens =
    end_object ∷ end_array ∷ key (codes "meta") ∷ begin_object ∷ end_object ∷ end_object ∷ []

-- a page with lines, but for its end
abbrev pub lines_tokens : ℕ → ℕ → List ℕ → List Token
lines_tokens id first content =
    first_tokens (codes "logchunks")
    ++ key (codes "content")
    ∷ string content
    ∷ key (codes "firstline")
    ∷ number (decimal first)
    ∷ key (codes "logid")
    ∷ number (decimal id)
    ∷ []

-- a page with a log, but for its end
abbrev pub state_tokens : ℕ → List ℕ → Bool → ℕ → List Token
state_tokens id name complete lines =
    first_tokens (codes "logs")
    ++ key (codes "complete")
    ∷ boolean complete
    ∷ key (codes "logid")
    ∷ number (decimal id)
    ∷ key (codes "name")
    ∷ string name
    ∷ key (codes "num_lines")
    ∷ number (decimal lines)
    ∷ key (codes "type")
    ∷ string (codes "s")
    ∷ []
