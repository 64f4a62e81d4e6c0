-- Chunks are of the trace.
use Rattle.std.proofs.Common.{◌≡◌, ◌≤◌, List, length, take, sym, ap, ◌∙◌, option_map}
use Rattle.std.proofs.Math.Seq.{take-append_seam}
use Rattle.bm_session.specs.declared.item.Item.{Item}
use Rattle.bm_session.specs.Trace.{items, productive}
use Rattle.bm_store.specs.Book.{book, chunk_in, chunk_of}
use Rattle.bm_store.proofs.Looks.{books_answer_looks}
use Rattle.bm_lane.specs.Laws.{ChunksAreOfTheTrace}
use Rattle.bm_lane.proofs.Prefixes.{prefix_length}

pub chunks_are_of_the_trace : ChunksAreOfTheTrace
chunks_are_of_the_trace t seen k name off lim taken begins =
    let same : take (length seen) (items t) ≡ seen = ap (take (length seen)) (sym begins.1) ∙ take-append_seam seen begins.0 in
    let few : length seen ≤ productive t = prefix_length seen (items t) begins in
    ap (option_map (chunk_of off)) (ap (λ (is : List Item). chunk_in (book is) k name off lim) (sym same) ∙ books_answer_looks t (length seen) k name off lim taken few)
