-- For clauses inside the crate: the rows of the router that `Paths` holds, in matchit's words.
use Rattle.std.specs.Prelude.{ℕ, List, [], ◌∷◌, ◌++◌, codes}
use Rattle.matchit.specs.Rows.{RowsOf, param_token}
use Rattle.matchit.specs.Router.{RouteOf}
use Rattle.bm_http.specs.declared.paths.Page.{Page}
use Rattle.bm_http.specs.declared.paths.Page.TheVariants.{Log, Contents}

abbrev pub pattern_of : Page → List ℕ
pattern_of Log = codes "/api/v2/logs/" ++ param_token ∷ []
pattern_of Contents = codes "/api/v2/logs/" ++ param_token ∷ codes "/contents"

abbrev pub text_of : Page → List ℕ
text_of Log = codes "/api/v2/logs/{id}"
text_of Contents = codes "/api/v2/logs/{id}/contents"

-- a page's route: the name of its parameter stands in its text from 14 to 16
abbrev pub route_of : Page → RouteOf Page
route_of page =
    record { pattern = pattern_of page; text = text_of page; names = (14, 16) ∷ []; value = page }

abbrev pub held : RowsOf (RouteOf Page)
held = (pattern_of Contents, route_of Contents) ∷ (pattern_of Log, route_of Log) ∷ []
