-- What a request asks for.
use Rattle.std.specs.Prelude.{◌≡◌, ℕ, ◌-◌, ◌^◌, bytes_eq, List, codes, Option, Some, None, MatchOption, unwrap_or, if◌then◌else◌}
use Rattle.bm_lines.specs.Names.{Name, stdio}
use Rattle.bm_http.specs.declared.request_refusal.RequestRefusal.{RequestRefusal}
use Rattle.bm_http.specs.declared.request_refusal.RequestRefusal.TheVariants.{NoSuchPage, MethodNotAllowed, NoSuchLog, BadNumber}
use Rattle.bm_decimal.specs.Decimals.{number_of}
use Rattle.bm_http.specs.Paths.{Names}
use Rattle.bm_http.specs.Targets.{parameter, number_or, path_of, query_of}
use Rattle.bm_http.specs.declared.paths.Page.{Page}
use Rattle.bm_http.specs.declared.paths.Page.TheVariants.{Log, Contents}

-- what a request asks for: the state of a log, or some of its lines; or nothing, where it is
-- refused as it stands
pub data Asked : Type 0 where
  refused : RequestRefusal → Asked
  state : ℕ → Name → Asked
  lines : ℕ → Name → ℕ → ℕ → Asked

-- the page that a path names, and the text of its id; none where it names none
abbrev pub IsFound : List ℕ → Option (Page × List ℕ) → Type 0
IsFound path found =
    MatchOption found ((page : Page) (id : List ℕ) → ¬ Names path page id) (λ p. Names path p.0 p.1)

-- the log of a query
abbrev pub name_in : List ℕ → Name
name_in query = unwrap_or (parameter (codes "name") query) stdio

-- the first line and the number of lines, where both are numbers
abbrev pub lines_asked : ℕ → Name → Option ℕ → Option ℕ → Asked
lines_asked id name None limit = refused BadNumber
lines_asked id name (Some offset) None = refused BadNumber
lines_asked id name (Some offset) (Some limit) = lines id name offset limit

-- a page of the log with this id, where it is a number
abbrev pub page_asked : Page → Option ℕ → List ℕ → Asked
page_asked page None query = refused NoSuchLog
page_asked Log (Some id) query = state id (name_in query)
page_asked Contents (Some id) query =
    lines_asked id (name_in query) (number_or 0 (parameter (codes "offset") query))
    (number_or (2 ^ 64 - 1) (parameter (codes "limit") query))

-- the checks in their order: the path, the method, the id, the query
abbrev pub asked : Option (Page × List ℕ) → List ℕ → List ℕ → Asked
asked None method query = refused NoSuchPage
asked (Some p) method query =
    if bytes_eq method (codes "GET") then page_asked p.0 (number_of p.1) query
    else refused MethodNotAllowed

-- what a request with this method and target asks for
abbrev pub Asks : List ℕ → List ℕ → Asked → Type 0
Asks method target a =
    (found : Option (Page × List ℕ)) × IsFound (path_of target) found
    × (a ≡ asked found method (query_of target))
