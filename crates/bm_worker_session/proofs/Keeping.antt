-- What is told has no answer yet.
use Rattle.std.proofs.Common.{◌≡◌, ℕ, ◌+◌, ◌<◌, ◌≤◌, ◌==◌, false, not, List, [], ◌∷◌, ◌++◌, length, All, Ok, refl, sym, ap, ◌∙◌, arith}
use Rattle.std.proofs.lemmas.Bool.Decides.{nat_tests}
use Rattle.std.proofs.lemmas.List.Elements.{All-head, All-tail, filter-append}
use Rattle.std.specs.List.{list_any}
use Rattle.bm_work.specs.Core.{Core, IsCore, unanswered_requests}
use Rattle.bm_work.specs.Stream.{Report, sent, stream, stream_from, without_answer}
use Rattle.bm_work.specs.declared.sent.Sent.{Sent}
use Rattle.bm_worker_session.specs.Laws.{TellsKeep}
use Rattle.bm_worker_session.specs.Sessions.{requests_of}
use Rattle.bm_worker_session.proofs.Growing.{Grows, next_grows, streams_join}

-- a number that is not below that of the next request is none of the answered
is-late : (answered : List ℕ) (next n : ℕ) → All (λ m. m < next) answered → next ≤ n → list_any (λ m. m == n) answered ≡ false
is-late [] next n h l = refl
is-late (m ∷ ms) next n h l =
    let less : m < next = All-head (λ m. m < next) m ms h in
    let other : (m == n) ≡ false = grind (arith, nat_tests) in
    rw other (is-late ms next n (All-tail (λ m. m < next) m ms h) l)

late-unanswered : (answered : List ℕ) (next n : ℕ) (rs : List Report) → All (λ m. m < next) answered → next ≤ n → without_answer answered (stream_from n rs) ≡ stream_from n rs
late-unanswered answered next n [] h l = refl
late-unanswered answered next n (r ∷ rs) h l =
    rw (is-late answered next n h l) (ap (λ rest. sent n r ∷ rest) (late-unanswered answered next (n + 1) rs h (omega arith)))

unanswered-more : (answered : List ℕ) (reports rs : List Report) → All (λ m. m < length reports) answered
    → without_answer answered (stream (reports ++ rs)) ≡ without_answer answered (stream reports) ++ stream_from (length reports) rs
unanswered-more answered reports rs h =
    let from : 0 + length reports ≡ length reports = omega arith in
    ap (without_answer answered) (streams_join 0 reports rs ∙ ap (λ n. stream reports ++ stream_from n rs) from)
    ∙ (filter-append (λ (s : Sent). not (list_any (λ n. n == s.seq) answered)) (stream reports) (stream_from (length reports) rs)
    ∙ ap (λ more. without_answer answered (stream reports) ++ more) (late-unanswered answered (length reports) (length reports) rs h (omega arith)))

keeps : (c c2 : Core) (handed : List Sent) → IsCore c → Grows c handed c2 → unanswered_requests c2 ≡ unanswered_requests c ++ handed
keeps c c2 handed core (rs, is, told, answered) =
    ap (λ a. without_answer a (stream c2.reports)) answered
    ∙ (ap (λ all. without_answer c.answered (stream all)) is
    ∙ (unanswered-more c.answered c.reports rs core.sent_before ∙ ap (λ more. unanswered_requests c ++ more) (sym told)))

pub tells_keep : TellsKeep
tells_keep waiting waiting2 c c2 p core h = keeps c c2 (requests_of (Ok p)) core (next_grows waiting waiting2 c c2 p h)
