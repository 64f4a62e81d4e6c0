-- Lines of a log that are told piece by piece.
use Rattle.std.proofs.Common.{◌≡◌, ◌≤◌, ◌<◌, ◌+◌, ◌-◌, ◌^◌, ◌⊎◌, ℕ, zero, suc, Bool, true, false, cond, List, [], ◌∷◌, ◌++◌, length, take, drop, Option, Some, None, option_map, Ok, Err, refl, sym, subst, ap, ◌∙◌, arith, append_assoc, length-drop, inl, inr}
use Rattle.std.specs.Prelude.{min, option_and_then, slice_get, Result, IsTrue, MatchOption}
use Rattle.std.proofs.lemmas.List.{take-append-le, drop-append-le, take_all}
use Rattle.std.proofs.lemmas.List.Concat.{flat_map-append}
use mathlib.Core.List.{IsPrefix}
use Rattle.json.specs.Print.{escape, escape_byte}
use Rattle.bm_lines.specs.Lines.{Line, content_of}
use Rattle.bm_lines.specs.Names.{Name}
use Rattle.bm_session.specs.declared.item.Item.{Item}
use Rattle.bm_session.specs.Trace.{joined, slice}
use Rattle.bm_store.specs.declared.chunk.Chunk.{Chunk}
use Rattle.bm_store.specs.declared.chunk.LogState.{LogState}
use Rattle.bm_store.specs.Book.{Logs, book, blocks_in, blocks_of_log, is_there, state_log, lines_log, chunk_log, chunk_of}
use Rattle.bm_store.specs.Portions.{IsPortion, LooksAtPortion}
use Rattle.bm_store.specs.declared.portion.Portion.{Portion}
use Rattle.bm_store.proofs.Growing.{logs_grow}
use Rattle.bm_store.specs.declared.chunk.ViewRefusal.{ViewRefusal}
use Rattle.bm_store.specs.declared.chunk.ViewRefusal.TheVariants.{NoLog, Mem}
use Rattle.bm_lane.specs.Answers.{Answered, told, lines_of_book, state_of_book}
use Rattle.bm_http.specs.LongAnswers.{log_in, escaped, held, left_text}

-- Logs grow

joined-prefix : (bs cs : List (List Line)) → IsPrefix bs cs → IsPrefix (joined bs) (joined cs)
joined-prefix bs cs p = (joined p.0, sym (flat_map-append (λ (b : List Line). b) bs p.0) ∙ ap joined p.1)

-- a log of more items begins with that of fewer
pub log-grows : (seen more : List Item) (k : ℕ) (name : Name) → IsPrefix seen more → IsPrefix (log_in seen k name) (log_in more k name)
log-grows seen more k name p =
    let blocks : IsPrefix (blocks_in (book seen) k name) (blocks_in (book more) k name) =
    subst (λ is. IsPrefix (blocks_in (book seen) k name) (blocks_in (book is) k name)) p.1 (logs_grow seen p.0 k name) in
    joined-prefix (blocks_in (book seen) k name) (blocks_in (book more) k name) blocks

-- Slices

slice-same : (xs ys : List Line) (at n : ℕ) → IsPrefix xs ys → at + n ≤ length xs → slice ys at n ≡ slice xs at n
slice-same xs ys at n p le =
    let room : n ≤ length (drop at xs) = omega (arith, length-drop at xs) in
    subst (λ zs. slice zs at n ≡ slice xs at n) p.1 (ap (take n) (drop-append-le at xs p.0 (omega arith)) ∙ take-append-le n (drop at xs) p.0 room)

-- lines that were there are the same later
pub lines-stay : (seen more : List Item) (k : ℕ) (name : Name) (at n : ℕ) → IsPrefix seen more → at + n ≤ length (log_in seen k name)
    → slice (log_in more k name) at n ≡ slice (log_in seen k name) at n
lines-stay seen more k name at n p le = slice-same (log_in seen k name) (log_in more k name) at n (log-grows seen more k name p) le

-- What is left

-- a portion of the text of the lines is told: the escapes of a text are those of its parts
pub left-portion : (xs : List Line) (at n end skip next : ℕ) (text : List ℕ) (back : Option (List ℕ))
    → drop skip (content_of (slice xs at (end - at))) ≡ text ++ drop next (content_of (slice xs (at + n) (end - at - n)))
    → left_text None xs at end skip back ≡ escape text ++ left_text None xs (at + n) end next back
left-portion xs at n end skip next text back parts =
    let rest : List ℕ = drop next (content_of (slice xs (at + n) (end - at - n))) in
    let amount : end - at - n ≡ end - (at + n) = omega arith in
    ap (λ t. escape t ++ held back) parts
    ∙ ap (λ t. t ++ held back) (flat_map-append escape_byte text rest)
    ∙ append_assoc (escape text) (escape rest) (held back)
    ∙ ap (λ m. escape text ++ (escaped next (slice xs (at + n) m) ++ held back)) amount

-- What a look says

abbrev no_chunk : ViewRefusal → Result Chunk ViewRefusal
no_chunk e = Err e

abbrev pub a_chunk : ℕ → ℕ → List ℕ → Result Chunk ViewRefusal
a_chunk off n text = Ok (record { first_line = off; lines = n; content = text })

-- what is answered of a look at a portion of lines that are there or not
abbrev Tells : (off lim skip most : ℕ) → Result Portion ViewRefusal → Option (List Line) → Type 0
Tells off lim skip most r o = MatchOption o (r ≡ Err NoLog) (λ lines. (r ≡ Err Mem) ⊎ ((p : Portion) × (r ≡ Ok p) × IsPortion lines off lim skip most p))

-- a look that gave a portion gave one of the log
pub portion-given : (seen : List Item) (k : ℕ) (name : Name) (off lim skip most : ℕ) (p : Portion) → LooksAtPortion (book seen) k name off lim skip most (Ok p)
    → IsPortion (log_in seen k name) off lim skip most p
portion-given seen k name off lim skip most p = go (slice_get (book seen) k)
  where
    known : (l : Logs) (b : Bool) → Tells off lim skip most (Ok p) (cond b (Some (joined (l.blocks name))) None) → IsPortion (joined (l.blocks name)) off lim skip most p
    known l true (inl h) = absurd (cc h)
    known l true (inr h) = let same : h.0 ≡ p = cc h.1 in subst (λ q. IsPortion (joined (l.blocks name)) off lim skip most q) same h.2
    known l false h = absurd (cc h)

    go : (o : Option Logs) → Tells off lim skip most (Ok p) (option_and_then (lines_log name) o) → IsPortion (joined (blocks_of_log name o)) off lim skip most p
    go None h = absurd (cc h)
    go (Some l) h = known l (is_there name l) h

-- a portion of a later log is one of the log as it stood, where its lines were there
pub portion-stays : (seen more : List Item) (k : ℕ) (name : Name) (at count skip most : ℕ) (p : Portion) → IsPrefix seen more → at + count ≤ length (log_in seen k name)
    → IsPortion (log_in more k name) at count skip most p → IsPortion (log_in seen k name) at count skip most p
portion-stays seen more k name at count skip most p le there h =
    let few : p.lines ≤ count = h.few in
    let whole : slice (log_in more k name) at count ≡ slice (log_in seen k name) at count = lines-stay seen more k name at count le there in
    let rest : slice (log_in more k name) (at + p.lines) (count - p.lines) ≡ slice (log_in seen k name) (at + p.lines) (count - p.lines) =
    lines-stay seen more k name (at + p.lines) (count - p.lines) le (omega arith) in
    record {
      few = h.few;
      short = h.short;
      parts = ap (λ l. drop skip (content_of l)) (sym whole) ∙ h.parts ∙ ap (λ l. p.content ++ drop p.skip (content_of l)) rest;
      last = λ t. ((h.last t).0 ∙ ap (λ l. drop skip (content_of l)) whole, (h.last t).1 ∙ ap (λ (l : List Line). length l) whole);
      full = h.full;
      more = λ t. subst (λ (l : List Line). p.skip < length (content_of l)) rest (h.more t);
    }

-- a look that gave the last portion gave all that was asked
pub portion-whole : (seen : List Item) (k : ℕ) (name : Name) (off lim most : ℕ) (p : Portion) → IsTrue p.is_last → LooksAtPortion (book seen) k name off lim 0 most (Ok p)
    → Answered (lines_of_book seen k name off lim) (a_chunk off p.lines p.content)
portion-whole seen k name off lim most p is_last = go (slice_get (book seen) k)
  where
    all : (ls : List Line) → IsPortion ls off lim 0 most p → a_chunk off p.lines p.content ≡ Ok (chunk_of off (slice ls off lim))
    all ls h = ap (λ (t : List ℕ). a_chunk off p.lines t) (h.last is_last).0 ∙ ap (λ (n : ℕ). a_chunk off n (content_of (slice ls off lim))) (h.last is_last).1

    known : (l : Logs) (b : Bool) → Tells off lim 0 most (Ok p) (cond b (Some (joined (l.blocks name))) None)
        → Answered (option_map (chunk_of off) (cond b (Some (slice (joined (l.blocks name)) off lim)) None)) (a_chunk off p.lines p.content)
    known l true (inl h) = absurd (cc h)
    known l true (inr h) = let same : h.0 ≡ p = cc h.1 in inl (all (joined (l.blocks name)) (subst (λ q. IsPortion (joined (l.blocks name)) off lim 0 most q) same h.2))
    known l false h = absurd (cc h)

    go : (o : Option Logs) → Tells off lim 0 most (Ok p) (option_and_then (lines_log name) o)
        → Answered (option_map (chunk_of off) (option_and_then (chunk_log name off lim) o)) (a_chunk off p.lines p.content)
    go None h = absurd (cc h)
    go (Some l) h = known l (is_there name l) h

-- and one that was refused says why the lines are
pub portion-refused : (seen : List Item) (k : ℕ) (name : Name) (off lim skip most : ℕ) (e : ViewRefusal) → LooksAtPortion (book seen) k name off lim skip most (Err e)
    → Answered (lines_of_book seen k name off lim) (Err e)
portion-refused seen k name off lim skip most e = go (slice_get (book seen) k)
  where
    known : (l : Logs) (b : Bool) → Tells off lim skip most (Err e) (cond b (Some (joined (l.blocks name))) None)
        → Answered (option_map (chunk_of off) (cond b (Some (slice (joined (l.blocks name)) off lim)) None)) (Err e)
    known l true (inl h) = let same : e ≡ Mem = cc h in inr (ap (λ (d : ViewRefusal). no_chunk d) same)
    known l true (inr h) = absurd (cc h.1)
    known l false h = let same : e ≡ NoLog = cc h in ap (λ (d : ViewRefusal). no_chunk d) same

    go : (o : Option Logs) → Tells off lim skip most (Err e) (option_and_then (lines_log name) o)
        → Answered (option_map (chunk_of off) (option_and_then (chunk_log name off lim) o)) (Err e)
    go None h = let same : e ≡ NoLog = cc h in ap (λ (d : ViewRefusal). no_chunk d) same
    go (Some l) h = known l (is_there name l) h

abbrev Known : ℕ → Name → ℕ → ℕ → Option Logs → LogState → Type 0
Known k name off lim o s =
    (option_map (chunk_of off) (option_and_then (chunk_log name off lim) o) ≡ Some (chunk_of off (slice (joined (blocks_of_log name o)) off lim)))
    × (s.lines ≡ min (length (joined (blocks_of_log name o))) (2 ^ 64 - 1))

-- of a log that is there, the asked lines are there, and their number is known
pub state-known : (seen : List Item) (k : ℕ) (name : Name) (off lim : ℕ) (s : LogState) → state_of_book seen k name ≡ Some s
    → (lines_of_book seen k name off lim ≡ Some (chunk_of off (slice (log_in seen k name) off lim))) × (s.lines ≡ min (length (log_in seen k name)) (2 ^ 64 - 1))
state-known seen k name off lim s = go (slice_get (book seen) k)
  where
    known : (l : Logs) (b : Bool) → cond b (Some (record { lines = min (length (joined (l.blocks name))) (2 ^ 64 - 1); ended = l.ended })) None ≡ Some s
        → (option_map (chunk_of off) (cond b (Some (slice (joined (l.blocks name)) off lim)) None) ≡ Some (chunk_of off (slice (joined (l.blocks name)) off lim)))
        × (s.lines ≡ min (length (joined (l.blocks name))) (2 ^ 64 - 1))
    known l true h = (refl, let e : s ≡ record { lines = min (length (joined (l.blocks name))) (2 ^ 64 - 1); ended = l.ended } = cc h in ap (λ (d : LogState). d.lines) e)
    known l false h = absurd (cc h)

    go : (o : Option Logs) → option_and_then (state_log name) o ≡ Some s → Known k name off lim o s
    go None h = absurd (cc h)
    go (Some l) h = known l (is_there name l) h

-- of a log of so many lines, the asked lines are those up to the end that this gives
pub slice-bounded : (xs : List Line) (off lim n total : ℕ) → total ≡ length xs → n ≡ min lim (total - off) → slice xs off lim ≡ slice xs off n
slice-bounded xs off lim n total t e = bounded (drop off xs) lim n (omega (arith, length-drop off xs))
  where
    bounded : (ys : List Line) (lim n : ℕ) → n ≡ min lim (length ys) → take lim ys ≡ take n ys
    bounded [] lim n e = take_all lim [] (omega arith) ∙ sym (take_all n [] (omega arith))
    bounded (y ∷ ys) zero zero e = refl
    bounded (y ∷ ys) zero (suc n) e = absurd (omega arith)
    bounded (y ∷ ys) (suc lim) zero e = absurd (omega arith)
    bounded (y ∷ ys) (suc lim) (suc n) e = ap (λ l. y ∷ l) (bounded ys lim n (omega arith))

abbrev no_state : ViewRefusal → Result LogState ViewRefusal
no_state e = Err e

abbrev a_state : LogState → Result LogState ViewRefusal
a_state s = Ok s

-- where the state of a log was refused, its lines are so
pub lines-refused : (seen : List Item) (k : ℕ) (name : Name) (off lim : ℕ) (e : ViewRefusal) → no_state e ≡ told (state_of_book seen k name) → Answered (lines_of_book seen k name off lim) (Err e)
lines-refused seen k name off lim e = go (slice_get (book seen) k)
  where
    known : (l : Logs) (b : Bool) → no_state e ≡ told (cond b (Some (record { lines = min (length (joined (l.blocks name))) (2 ^ 64 - 1); ended = l.ended })) None)
        → Answered (option_map (chunk_of off) (cond b (Some (slice (joined (l.blocks name)) off lim)) None)) (Err e)
    known l true h = absurd (cc h)
    known l false h = let same : e ≡ NoLog = cc h in ap (λ (d : ViewRefusal). no_chunk d) same

    go : (o : Option Logs) → no_state e ≡ told (option_and_then (state_log name) o) → Answered (option_map (chunk_of off) (option_and_then (chunk_log name off lim) o)) (Err e)
    go None h = let same : e ≡ NoLog = cc h in ap (λ (d : ViewRefusal). no_chunk d) same
    go (Some l) h = known l (is_there name l) h

pub told-some : (o : Option LogState) (s : LogState) → a_state s ≡ told o → o ≡ Some s
told-some None s h = absurd (cc h)
told-some (Some t) s h = cc h
