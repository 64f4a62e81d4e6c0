use Rattle.std.proofs.Common.{◌≡◌, ◌+◌, ◌++◌, ◌∷◌, [], ◌∙◌, ap, sym, subst, length, get_or, arith, length-append}
use Rattle.std.proofs.Math.Seq.{get_or-append_seam}
use Rattle.std.proofs.lemmas.List.{get_or_append_left}
use Rattle.std.proofs.lemmas.List.Elements.{All-push}
use Rattle.bm_lane.specs.Ends.{Watched, AllNew}
use Rattle.bm_lane.specs.BookReaders.{Looked}
use Rattle.bm_lane.proofs.blank.placed.Goals as goal

pub loop-book_reader-preserved : goal.loop-book_reader-preserved
loop-book_reader-preserved g c =
    let items : c.loop-book_reader.book_readers.items ≡ c.pop.new.self.items ++ c.in-Some.book_reader ∷ [] = c.in-Some.ensures.items in
    let more : c.push_reserved.new.self.items ≡ c.loop-book_reader.placed.items ++ c.over.result ∷ [] = c.push_reserved.ensures.items in
    let size : length c.loop-book_reader.book_readers.items ≡ length c.pop.new.self.items + 1 = ap length items ∙ length-append c.pop.new.self.items (c.in-Some.book_reader ∷ []) in
    let grown : length c.push_reserved.new.self.items ≡ length c.loop-book_reader.placed.items + 1 = ap length more ∙ length-append c.loop-book_reader.placed.items (c.over.result ∷ []) in
    let last : get_or c.loop-book_reader.book_readers.items (length c.pop.new.self.items) c.in-Some.book_reader ≡ c.in-Some.book_reader =
    ap (λ l. get_or l (length c.pop.new.self.items) c.in-Some.book_reader) items ∙ get_or-append_seam c.pop.new.self.items c.in-Some.book_reader [] c.in-Some.book_reader in
    let mine = subst (λ (b : Looked). (b.history ≡ g.Y.Yard.copy c.args.lane) × (b.seen ≡ [])) last (c.loop-book_reader.invariant.own (length c.pop.new.self.items) c.in-Some.book_reader (omega arith)) in
    record {
      own = λ k d l.
          let same : get_or c.loop-book_reader.book_readers.items k d ≡ get_or c.pop.new.self.items k d = ap (λ bs. get_or bs k d) items ∙ get_or_append_left c.pop.new.self.items (c.in-Some.book_reader ∷ []) d k l in
          subst (λ (b : Looked). (b.history ≡ g.Y.Yard.copy c.args.lane) × (b.seen ≡ [])) same (c.loop-book_reader.invariant.own k d (omega arith));
      new = subst (AllNew c.args.lane) (sym more) (All-push (λ (v : Watched). (v.lane ≡ c.args.lane) × (v.seen ≡ [])) c.loop-book_reader.placed.items c.over.result c.loop-book_reader.invariant.new
          (ap (λ (v : Watched). v.lane) c.over.ensures, ap (λ (v : Watched). v.seen) c.over.ensures ∙ mine.1));
      count = omega (arith, c.loop-book_reader.invariant.count);
      room = omega (arith, c.loop-book_reader.invariant.room, c.push_reserved.ensures.capacity);
    }
