-- A path names one page of one log at most, so a request asks for one thing.
use Rattle.std.proofs.Common.{◌≡◌, ℕ, ◌+◌, List, ◌++◌, length, get_or, Option, Some, None, refl, sym, ap, ◌∙◌, arith, codes, length-append}
use Rattle.std.proofs.lemmas.List.{append_cancel_left, append_cancel_right}
use Rattle.std.proofs.Math.Seq.{get_or-append_seam}
use Rattle.bm_http.specs.declared.paths.Page.{Page}
use Rattle.bm_http.specs.declared.paths.Page.TheVariants.{Log, Contents}
use Rattle.bm_http.specs.Paths.{IsId, Names}
use Rattle.bm_http.specs.Targets.{path_of, query_of}
use Rattle.bm_http.specs.Requests.{IsFound, asked}
use Rattle.bm_http.specs.Laws.{AsksOnce}

abbrev logs : List ℕ
logs = codes "/api/v2/logs/"

-- an id holds no slash, so it is no other id with more behind it
apart : (id other : List ℕ) → IsId id → id ≡ other ++ codes "/contents" → ⊥
apart id other i e =
    let l : length id ≡ length other + 9 = ap length e ∙ length-append other (codes "/contents") in
    let s : get_or id (length other) 0 ≡ 47 = ap (λ t. get_or t (length other) 0) e ∙ get_or-append_seam other 47 (codes "contents") 0 in
    i.1 (length other) 0 (omega arith) s

once : (path : List ℕ) (p q : Page) (id other : List ℕ) → Names path p id → Names path q other → (p ≡ q) × (id ≡ other)
once path Log Log id other a b = (refl, append_cancel_left logs id other (sym a.0 ∙ b.0))
once path Log Contents id other a b = absurd (apart id other a.1 (append_cancel_left logs id (other ++ codes "/contents") (sym a.0 ∙ b.0)))
once path Contents Log id other a b = absurd (apart other id b.1 (append_cancel_left logs other (id ++ codes "/contents") (sym b.0 ∙ a.0)))
once path Contents Contents id other a b =
    (refl, append_cancel_right id other (codes "/contents") (append_cancel_left logs (id ++ codes "/contents") (other ++ codes "/contents") (sym a.0 ∙ b.0)))

found-once : (path : List ℕ) (f g : Option (Page × List ℕ)) → IsFound path f → IsFound path g → f ≡ g
found-once path None None a b = refl
found-once path None (Some q) a b = absurd (a q.0 q.1 b)
found-once path (Some p) None a b = absurd (b p.0 p.1 a)
found-once path (Some (p, id)) (Some (q, other)) a b =
    let s = once path p q id other a b in
    let e : p ≡ q = s.0 in
    let i : id ≡ other = s.1 in
    cc

pub asks_once : AsksOnce
asks_once method target a b (f, isf, ea) (g, isg, eb) =
    let s : f ≡ g = found-once (path_of target) f g isf isg in
    ea ∙ ap (λ o. asked o method (query_of target)) s ∙ sym eb
