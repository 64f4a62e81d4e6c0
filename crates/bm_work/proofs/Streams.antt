-- The requests of a worker.
use Rattle.std.proofs.Common.{◌≡◌, ℕ, suc, ◌+◌, List, [], ◌∷◌, ◌++◌, length, refl, sym, ap, ◌∙◌, arith, append_assoc}
use Rattle.bm_work.specs.Stream.{Report, sent, stream_from, lines_in, said}
use Rattle.bm_work.specs.StreamLaws.{StreamsJoin, SaidGrows}

pub length-stream_from : (n : ℕ) (rs : List Report) → length (stream_from n rs) ≡ length rs
length-stream_from n [] = refl
length-stream_from n (r ∷ rs) = ap suc (length-stream_from (n + 1) rs)

pub streams_join : StreamsJoin
streams_join n [] second = ap (λ m. stream_from m second) (omega arith)
streams_join n (r ∷ first) second =
    let next : n + 1 + length first ≡ n + length (r ∷ first) = omega arith in
    ap (λ rest. sent n r ∷ rest) (streams_join (n + 1) first second ∙ ap (λ m. stream_from (n + 1) first ++ stream_from m second) next)

pub said_grows : SaidGrows
said_grows [] second k = refl
said_grows (r ∷ first) second k =
    ap (λ rest. lines_in k r ++ rest) (said_grows first second k) ∙ sym (append_assoc (lines_in k r) (said first k) (said second k))
