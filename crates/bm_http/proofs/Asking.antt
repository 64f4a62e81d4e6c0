-- What a request asks for, by what is found of its path.
use Rattle.std.proofs.Common.{◌≡◌, ℕ, List, Some, None, true, false, cond, bytes_eq, codes, refl, sym, ap}
use Rattle.bm_decimal.specs.Decimals.{number_of}
use Rattle.bm_http.specs.Paths.{Names}
use Rattle.bm_http.specs.Targets.{path_of, query_of}
use Rattle.bm_http.specs.Requests.{Asks, refused, page_asked}
use Rattle.bm_http.specs.declared.paths.Page.{Page}
use Rattle.bm_http.specs.declared.request_refusal.RequestRefusal.TheVariants.{NoSuchPage, MethodNotAllowed}

pub Asks-missing : (method target : List ℕ) → ((page : Page) (id : List ℕ) → ¬ Names (path_of target) page id) → Asks method target (refused NoSuchPage)
Asks-missing method target h = (None, h, refl)

pub Asks-other : (method target : List ℕ) (page : Page) (id : List ℕ) → Names (path_of target) page id → bytes_eq method (codes "GET") ≡ false → Asks method target (refused MethodNotAllowed)
Asks-other method target page id n e =
    (Some (page, id), n, sym (ap (λ b. cond b (page_asked page (number_of id) (query_of target)) (refused MethodNotAllowed)) e))

pub Asks-page : (method target : List ℕ) (page : Page) (id : List ℕ) → Names (path_of target) page id → bytes_eq method (codes "GET") ≡ true → Asks method target (page_asked page (number_of id) (query_of target))
Asks-page method target page id n e =
    (Some (page, id), n, sym (ap (λ b. cond b (page_asked page (number_of id) (query_of target)) (refused MethodNotAllowed)) e))
