use Rattle.std.proofs.Common.{◌≡◌, true, false, bytes_eq, codes, rules, subst, sym}
use Rattle.std.proofs.lemmas.Result.{IfOk-weaker}
use Rattle.bm_http.specs.Paths.{Names}
use Rattle.bm_http.specs.Targets.{path_of}
use Rattle.bm_http.specs.Requests.{Asks}
use Rattle.bm_http.proofs.Asking.{Asks-other, Asks-page}
use Rattle.bm_http.proofs.routes.Routes.request.Goals as goal

pub returns-then-ne : goal.returns-then-ne
returns-then-ne c =
    let e : bytes_eq c.args.method.now (codes "GET") ≡ false = search rules in
    let n : Names (path_of c.args.target.now) c.in-Some.found.page c.in-Some.found.id.now = rw (c.in-Some.is, c.split.ensures.path) at c.find.ensures.named in
    Asks-other c.args.method.now c.args.target.now c.in-Some.found.page c.in-Some.found.id.now n e

pub returns : goal.returns
returns c =
    let e : bytes_eq c.args.method.now (codes "GET") ≡ true = search rules in
    let n : Names (path_of c.args.target.now) c.in-Some.found.page c.in-Some.found.id.now = rw (c.in-Some.is, c.split.ensures.path) at c.find.ensures.named in
    let asks = Asks-page c.args.method.now c.args.target.now c.in-Some.found.page c.in-Some.found.id.now n e in
    let asked = rw c.split.ensures.query at c.of_page.ensures in
    IfOk-weaker c.of_page.result _ _ (λ r h. subst (Asks c.args.method.now c.args.target.now) (sym h) asks) asked
