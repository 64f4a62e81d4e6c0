-- A lane after an event, a drain and a look.
use Rattle.std.proofs.Common.{◌≡◌, refl, sym, ◌∙◌, ap, subst, ℕ, Bool, zero, suc, ◌+◌, ◌-◌, ◌≤◌, ◌<◌, true, false, cond, ◌&&◌, List, [], ◌∷◌, ◌++◌, length, take, drop, Option, Some, None, arith, length-append, inl, inr}
use Rattle.std.specs.Prelude.{◌⊎◌, nat_le, is_none, is_some, MatchOption, Result, Ok, Err}
use Rattle.std.specs.List.{cons_option}
use Rattle.std.proofs.lemmas.List.{take-append-le, drop-append-le, append-nil}
use Rattle.std.proofs.lemmas.List.Sums.{fold-append}
use Rattle.std.proofs.lemmas.Bool.Decides.{nat_tests}
use Rattle.bm_lines.specs.Names.{Name}
use Rattle.bm_lines.specs.Lines.{Line}
use Rattle.bm_session.specs.declared.event.Event.{Event}
use Rattle.bm_session.specs.declared.item.Item.{Item}
use Rattle.bm_session.specs.Trace.{Trace, was_taken, refusal, item, items, reply, productive, visible, has_log, log, slice}
use Rattle.bm_session.proofs.Pushed.{items-push}
use Rattle.bm_session.proofs.Taken.{was_taken-push}
use Rattle.bm_store.specs.Book.{after_item, book, chunk_in}
use Rattle.bm_store.specs.Kept.{Kept, logs_in}
use Rattle.bm_store.specs.Laws.{look_at}
use Rattle.bm_store.proofs.Looks.{books_answer_looks}
use Rattle.bm_store.specs.Book.{chunk_of}
use Rattle.bm_store.specs.declared.chunk.Chunk.{Chunk}
use Rattle.bm_store.specs.declared.chunk.ViewRefusal.{ViewRefusal}
use Rattle.bm_store.specs.declared.chunk.ViewRefusal.TheVariants.{NoLog, Mem}
use Rattle.bm_world.specs.declared.answer.Answer.TheVariants.{Heard, Busy, Chunk as AnswerChunk, NoLog as AnswerNoLog}
use Rattle.bm_world.specs.World.{World, Stepped, heard, chunk_answer, seen}
use Rattle.bm_world.specs.Keeping.{IsKept}

taken-next : (t : Trace) (e : Event) → was_taken t ≡ true → refusal t e ≡ None → was_taken (t ++ e ∷ []) ≡ true
taken-next t e h r = was_taken-push t e ∙ ap (λ b. b && is_none (refusal t e)) h ∙ ap (λ o. is_none o) r

-- an event that was taken, whose item, if it has one, went to the queue's end
pub kept-heard : (t t' : Trace) (e : Event) (queue queue' : List Item) (kept : List Kept) → IsKept t queue kept → refusal t e ≡ None → t' ≡ t ++ e ∷ [] → queue' ≡ queue ++ cons_option (item t e) []
    → IsKept t' queue' kept × (productive t' - length queue' ≡ productive t - length queue)
kept-heard t t' e queue queue' kept old r same more = (
  record {
    taken = ap was_taken same ∙ taken-next t e old.taken r;
    few = (let a : length queue ≤ productive t = old.few in omega (arith, count, size));
    queued = more ∙ ap (λ q. q ++ cons_option (item t e) []) old.queued ∙ sym (drop-append-le (productive t - length queue) (items t) (cons_option (item t e) []) (omega arith)) ∙ ap (drop (productive t - length queue)) (sym all) ∙ ap (λ d. drop d (items t')) (sym shown);
    booked = old.booked ∙ ap book (sym (take-append-le (productive t - length queue) (items t) (cons_option (item t e) []) (omega arith))) ∙ ap (λ is. book (take (productive t - length queue) is)) (sym all) ∙ ap (λ d. book (take d (items t'))) (sym shown);
  },
  shown,
)
  where
    all : items t' ≡ items t ++ cons_option (item t e) []
    all = ap items same ∙ items-push t e

    count : productive t' ≡ productive t + length (cons_option (item t e) [])
    count = ap length all ∙ length-append (items t) (cons_option (item t e) [])

    size : length queue' ≡ length queue + length (cons_option (item t e) [])
    size = ap length more ∙ length-append queue (cons_option (item t e) [])

    shown : productive t' - length queue' ≡ productive t - length queue
    shown = (let a : length queue ≤ productive t = old.few in omega (arith, count, size))

-- the first item of the queue, in the book
pub kept-drained : (t : Trace) (i : Item) (rest : List Item) (kept kept' : List Kept) → IsKept t (i ∷ rest) kept → logs_in kept' ≡ after_item (logs_in kept) i
    → IsKept t rest kept' × (productive t - length rest ≡ productive t - length (i ∷ rest) + 1) × (productive t - length (i ∷ rest) < productive t)
kept-drained t i rest kept kept' old h =
    let few : length (i ∷ rest) ≤ productive t = old.few in
    let next : productive t - length rest ≡ productive t - length (i ∷ rest) + 1 = omega arith in (
      record {
        taken = old.taken;
        few = omega arith;
        queued = sym (drop-more (items t) (productive t - length (i ∷ rest)) i rest (sym old.queued)) ∙ ap (λ d. drop d (items t)) (sym next);
        booked = h ∙ ap (λ b. after_item b i) old.booked ∙ sym (fold-append after_item [] (take (productive t - length (i ∷ rest)) (items t)) (i ∷ [])) ∙ ap book (sym (take-more (items t) (productive t - length (i ∷ rest)) i rest (sym old.queued))) ∙ ap (λ d. book (take d (items t))) (sym next);
      },
      next,
      omega arith,
    )
  where
    drop-more : (is : List Item) (n : ℕ) (i : Item) (rest : List Item) → drop n is ≡ i ∷ rest → drop (n + 1) is ≡ rest
    drop-more [] zero i rest e = cc
    drop-more [] (suc n) i rest e = cc
    drop-more (x ∷ xs) zero i rest e = cc
    drop-more (x ∷ xs) (suc n) i rest e = let one : suc n + 1 ≡ suc (n + 1) = omega arith in ap (λ m. drop m (x ∷ xs)) one ∙ drop-more xs n i rest e

    take-more : (is : List Item) (n : ℕ) (i : Item) (rest : List Item) → drop n is ≡ i ∷ rest → take (n + 1) is ≡ take n is ++ i ∷ []
    take-more [] zero i rest e = cc
    take-more [] (suc n) i rest e = cc
    take-more (x ∷ xs) zero i rest e = let same : x ≡ i = cc in ap (λ y. y ∷ []) same
    take-more (x ∷ xs) (suc n) i rest e = let one : suc n + 1 ≡ suc (n + 1) = omega arith in ap (λ m. take m (x ∷ xs)) one ∙ ap (λ l. x ∷ l) (take-more xs n i rest e)

-- the book answers as the visible trace does
pub kept-looked : (t : Trace) (queue : List Item) (kept : List Kept) (k : ℕ) (name : Name) (off lim : ℕ) → IsKept t queue kept
    → chunk_in (logs_in kept) k name off lim ≡ look_at (visible t (productive t - length queue)) k name off lim
kept-looked t queue kept k name off lim old =
    ap (λ b. chunk_in b k name off lim) old.booked ∙ books_answer_looks t (productive t - length queue) k name off lim old.taken (omega arith)

looked-chunk : (r : Result Chunk ViewRefusal) (o : Option (List Line)) (off : ℕ) (chunk : Chunk) → MatchOption o (r ≡ Err NoLog) (λ ls. (r ≡ Ok (chunk_of off ls)) ⊎ (r ≡ Err Mem)) → r ≡ Ok chunk → AnswerChunk chunk ≡ chunk_answer off o
looked-chunk r None off chunk h e = cc
looked-chunk r (Some ls) off chunk (inl h) e = let same : chunk ≡ chunk_of off ls = cc in ap AnswerChunk same
looked-chunk r (Some ls) off chunk (inr h) e = cc

looked-none : (r : Result Chunk ViewRefusal) (o : Option (List Line)) (off : ℕ) → MatchOption o (r ≡ Err NoLog) (λ ls. (r ≡ Ok (chunk_of off ls)) ⊎ (r ≡ Err Mem)) → r ≡ Err NoLog → AnswerNoLog ≡ chunk_answer off o
looked-none r None off h e = refl
looked-none r (Some ls) off (inl h) e = cc
looked-none r (Some ls) off (inr h) e = cc

-- a lane with what it keeps
abbrev pub lane : ℕ → Trace → List Item → World
lane c t queue = record { capacity = c; trace = t; shown = productive t - length queue }

-- what the book answers is what the lane shows
pub shows-chunk : (c : ℕ) (t : Trace) (queue : List Item) (kept : List Kept) (k : ℕ) (name : Name) (off lim : ℕ) (r : Result Chunk ViewRefusal) (chunk : Chunk) → IsKept t queue kept
    → MatchOption (chunk_in (logs_in kept) k name off lim) (r ≡ Err NoLog) (λ ls. (r ≡ Ok (chunk_of off ls)) ⊎ (r ≡ Err Mem)) → r ≡ Ok chunk → AnswerChunk chunk ≡ seen (lane c t queue) k name off lim
shows-chunk c t queue kept k name off lim r chunk old h e = looked-chunk r (chunk_in (logs_in kept) k name off lim) off chunk h e ∙ ap (chunk_answer off) (kept-looked t queue kept k name off lim old)

pub shows-none : (c : ℕ) (t : Trace) (queue : List Item) (kept : List Kept) (k : ℕ) (name : Name) (off lim : ℕ) (r : Result Chunk ViewRefusal) → IsKept t queue kept
    → MatchOption (chunk_in (logs_in kept) k name off lim) (r ≡ Err NoLog) (λ ls. (r ≡ Ok (chunk_of off ls)) ⊎ (r ≡ Err Mem)) → r ≡ Err NoLog → AnswerNoLog ≡ seen (lane c t queue) k name off lim
shows-none c t queue kept k name off lim r old h e = looked-none r (chunk_in (logs_in kept) k name off lim) off h e ∙ ap (chunk_answer off) (kept-looked t queue kept k name off lim old)

looked-mem : (r : Result Chunk ViewRefusal) (t : Trace) (k : ℕ) (name : Name) (off lim : ℕ) (why : ViewRefusal) → MatchOption (look_at t k name off lim) (r ≡ Err NoLog) (λ ls. (r ≡ Ok (chunk_of off ls)) ⊎ (r ≡ Err Mem)) → r ≡ Err why → ¬ (why ≡ NoLog) → has_log t k name ≡ true
looked-mem r t k name off lim why h e f = go (has_log t k name) h
  where
    go : (b : Bool) → MatchOption (cond b (Some (slice (log t k name) off lim)) None) (r ≡ Err NoLog) (λ ls. (r ≡ Ok (chunk_of off ls)) ⊎ (r ≡ Err Mem)) → b ≡ true
    go true g = refl
    go false g = absurd (f (let same : why ≡ NoLog = cc in same))

-- a look that is answered neither lines nor that there is no log finds one
pub wants-chunk : (c : ℕ) (t : Trace) (queue : List Item) (kept : List Kept) (w : World) (k : ℕ) (name : Name) (off lim : ℕ) (r : Result Chunk ViewRefusal) (why : ViewRefusal) → IsKept t queue kept → lane c t queue ≡ w
    → MatchOption (chunk_in (logs_in kept) k name off lim) (r ≡ Err NoLog) (λ ls. (r ≡ Ok (chunk_of off ls)) ⊎ (r ≡ Err Mem)) → r ≡ Err why → ¬ (why ≡ NoLog) → has_log (visible w.trace w.shown) k name ≡ true
wants-chunk c t queue kept w k name off lim r why old same h e f =
    let asked : MatchOption (look_at (visible t (productive t - length queue)) k name off lim) (r ≡ Err NoLog) (λ ls. (r ≡ Ok (chunk_of off ls)) ⊎ (r ≡ Err Mem)) =
    subst (λ o. MatchOption o (r ≡ Err NoLog) (λ ls. (r ≡ Ok (chunk_of off ls)) ⊎ (r ≡ Err Mem))) (kept-looked t queue kept k name off lim old) h in
    ap (λ (v : World). has_log (visible v.trace v.shown) k name) (sym same) ∙ looked-mem r (visible t (productive t - length queue)) k name off lim why asked e f

-- an event that gives no item
pub heard-quietly : (c : ℕ) (t t' : Trace) (e : Event) (queue : List Item) (kept : List Kept) → IsKept t queue kept → refusal t e ≡ None → item t e ≡ None → t' ≡ t ++ e ∷ []
    → IsKept t' queue kept × (lane c t' queue ≡ (heard (lane c t queue) e (refusal t e)).1)
heard-quietly c t t' e queue kept old r none same =
    let more : queue ≡ queue ++ cons_option (item t e) [] = sym (append-nil queue) ∙ ap (λ o. queue ++ cons_option o []) (sym none) in
    let next : IsKept t' queue kept × (productive t' - length queue ≡ productive t - length queue) = kept-heard t t' e queue queue kept old r same more in
    let now : lane c t' queue ≡ record { capacity = c; trace = t ++ e ∷ []; shown = productive t - length queue } =
    ap (λ (u : Trace). record { capacity = c; trace = u; shown = productive t' - length queue }) same ∙ ap (λ d. record { capacity = c; trace = t ++ e ∷ []; shown = d }) next.1 in
    let told : (heard (lane c t queue) e (refusal t e)).1 ≡ record { capacity = c; trace = t ++ e ∷ []; shown = productive t - length queue } =
    ap (λ o. (heard (lane c t queue) e o).1) r
    ∙ ap (λ o. (cond {A = Stepped} (is_some o && nat_le (productive t - length queue + c) (productive t)) (Busy, lane c t queue) (Heard (reply t e), record { capacity = c; trace = t ++ e ∷ []; shown = productive t - length queue })).1) none in
    (next.0, now ∙ sym told)

-- an event whose item finds no place
pub heard-busy : (c : ℕ) (t : Trace) (e : Event) (i : Item) (queue : List Item) (kept : List Kept) → IsKept t queue kept → refusal t e ≡ None → item t e ≡ Some i → c ≤ length queue
    → heard (lane c t queue) e (refusal t e) ≡ (Busy, lane c t queue)
heard-busy c t e i queue kept old r some full =
    let few : length queue ≤ productive t = old.few in
    let late : nat_le (productive t - length queue + c) (productive t) ≡ true = grind (arith, nat_tests) in
    ap (heard (lane c t queue) e) r
    ∙ ap (λ o. cond {A = Stepped} (is_some o && nat_le (productive t - length queue + c) (productive t)) (Busy, lane c t queue) (Heard (reply t e), record { capacity = c; trace = t ++ e ∷ []; shown = productive t - length queue })) some
    ∙ ap (λ b. cond {A = Stepped} b (Busy, lane c t queue) (Heard (reply t e), record { capacity = c; trace = t ++ e ∷ []; shown = productive t - length queue })) late

-- an event whose item waits in the queue
pub heard-item : (c : ℕ) (t t' : Trace) (e : Event) (i : Item) (queue queue' : List Item) (kept : List Kept) → IsKept t queue kept → refusal t e ≡ None → item t e ≡ Some i → length queue < c → t' ≡ t ++ e ∷ [] → queue' ≡ queue ++ i ∷ []
    → IsKept t' queue' kept × (lane c t' queue' ≡ (heard (lane c t queue) e (refusal t e)).1)
heard-item c t t' e i queue queue' kept old r some room same grown =
    let few : length queue ≤ productive t = old.few in
    let more : queue' ≡ queue ++ cons_option (item t e) [] = grown ∙ ap (λ o. queue ++ cons_option o []) (sym some) in
    let next : IsKept t' queue' kept × (productive t' - length queue' ≡ productive t - length queue) = kept-heard t t' e queue queue' kept old r same more in
    let now : lane c t' queue' ≡ record { capacity = c; trace = t ++ e ∷ []; shown = productive t - length queue } =
    ap (λ (u : Trace). record { capacity = c; trace = u; shown = productive t' - length queue' }) same ∙ ap (λ d. record { capacity = c; trace = t ++ e ∷ []; shown = d }) next.1 in
    let early : nat_le (productive t - length queue + c) (productive t) ≡ false = grind (arith, nat_tests) in
    let told : (heard (lane c t queue) e (refusal t e)).1 ≡ record { capacity = c; trace = t ++ e ∷ []; shown = productive t - length queue } =
    ap (λ o. (heard (lane c t queue) e o).1) r
    ∙ ap (λ o. (cond {A = Stepped} (is_some o && nat_le (productive t - length queue + c) (productive t)) (Busy, lane c t queue) (Heard (reply t e), record { capacity = c; trace = t ++ e ∷ []; shown = productive t - length queue })).1) some
    ∙ ap (λ b. (cond {A = Stepped} b (Busy, lane c t queue) (Heard (reply t e), record { capacity = c; trace = t ++ e ∷ []; shown = productive t - length queue })).1) early in
    (next.0, now ∙ sym told)
