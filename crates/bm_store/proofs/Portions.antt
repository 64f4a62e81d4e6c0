-- What a book answers of a log whose blocks are known.
use Rattle.std.proofs.Common.{◌≡◌, refl, sym, subst, ap, ◌∙◌, ℕ, Bool, true, false, cond, List, Option, Some, None, Ok, Err, inl, inr}
use Rattle.std.specs.Prelude.{map, slice_get, option_and_then, Result, IfOk, MatchOption, MatchResult, ◌⊎◌}
use Rattle.bm_lines.specs.Lines.{Line}
use Rattle.bm_lines.specs.Names.{Name}
use Rattle.bm_session.specs.Trace.{joined, slice}
use Rattle.bm_store.specs.Book.{Logs, is_there, placed, placed_log, placed_in, chunk_log, chunk_in, chunk_of, lines_log, lines_in_log}
use Rattle.bm_store.specs.declared.chunk.Chunk.{Chunk}
use Rattle.bm_store.specs.declared.chunk.ViewRefusal.{ViewRefusal}
use Rattle.bm_store.specs.declared.chunk.ViewRefusal.TheVariants.{NoLog, Mem}
use Rattle.bm_store.specs.declared.portion.Portion.{Portion}
use Rattle.bm_store.specs.Portions.{IsPortion, LooksAt, LooksAtPortion}
use Rattle.bm_store.specs.declared.placed.Placed.{Placed}
use Rattle.bm_store.specs.Placing.{block_at}
use Rattle.bm_store.proofs.Places.{block_at-placed}

abbrev no_placed : Option (List Placed)
no_placed = None

-- its blocks stand at their places, and its lines are theirs
abbrev Known : Option Logs → List Placed → Name → Type 0
Known o ps name =
    (ps ≡ placed (map block_at ps))
    × (option_and_then (lines_log name) o ≡ Some (joined (map block_at ps)))
    × ((off lim : ℕ) → option_and_then (chunk_log name off lim) o ≡ Some (slice (joined (map block_at ps)) off lim))

pub found : (ls : List Logs) (k : ℕ) (name : Name) (ps : List Placed) → Some ps ≡ placed_in ls k name → Known (slice_get ls k) ps name
found ls k name ps = go (slice_get ls k)
  where
    known : (l : Logs) (b : Bool) → Some ps ≡ cond b (Some (placed (l.blocks name))) None
        → (ps ≡ placed (map block_at ps)) × (cond b (Some (joined (l.blocks name))) None ≡ Some (joined (map block_at ps)))
        × ((off lim : ℕ) → cond b (Some (slice (joined (l.blocks name)) off lim)) None ≡ Some (slice (joined (map block_at ps)) off lim))
    known l true h =
        let same : ps ≡ placed (l.blocks name) = cc h in
        let blocks : map block_at ps ≡ l.blocks name = ap (map block_at) same ∙ block_at-placed 0 (l.blocks name) in
        (same ∙ ap placed (sym blocks), ap (λ bs. Some (joined bs)) (sym blocks), λ off lim. ap (λ bs. Some (slice (joined bs) off lim)) (sym blocks))
    known l false h = absurd (cc h)

    go : (o : Option Logs) → Some ps ≡ option_and_then (placed_log name) o → Known o ps name
    go None h = absurd (cc h)
    go (Some l) h = known l (is_there name l) h

-- and of one that is not there there are none
pub not_found : (ls : List Logs) (k : ℕ) (name : Name) → None ≡ placed_in ls k name → (lines_in_log ls k name ≡ None) × ((off lim : ℕ) → chunk_in ls k name off lim ≡ None)
not_found ls k name = go (slice_get ls k)
  where
    known : (l : Logs) (b : Bool) → no_placed ≡ cond b (Some (placed (l.blocks name))) None
        → (cond b (Some (joined (l.blocks name))) None ≡ None) × ((off lim : ℕ) → cond b (Some (slice (joined (l.blocks name)) off lim)) None ≡ None)
    known l true h = absurd (cc h)
    known l false h = (refl, λ off lim. refl)

    go : (o : Option Logs) → no_placed ≡ option_and_then (placed_log name) o → (option_and_then (lines_log name) o ≡ None) × ((off lim : ℕ) → option_and_then (chunk_log name off lim) o ≡ None)
    go None h = (refl, λ off lim. refl)
    go (Some l) h = known l (is_there name l) h

abbrev a_chunk : Chunk → Result Chunk ViewRefusal
a_chunk c = Ok c

-- of a log that is there, a look answers the asked lines
pub looked : {E : Type 0} (made : Result Chunk E) (r : Result Chunk ViewRefusal) (ls : List Logs) (k : ℕ) (name : Name) (off lim : ℕ) (asked : List Line)
    → chunk_in ls k name off lim ≡ Some asked → IfOk made (λ c. c ≡ chunk_of off asked) → MatchResult made (λ c. r ≡ Ok c) (λ e. r ≡ Err Mem)
    → LooksAt r off (chunk_in ls k name off lim)
looked (Ok c) r ls k name off lim asked at h m = subst (LooksAt r off) (sym at) (inl (m ∙ ap a_chunk h))
looked (Err e) r ls k name off lim asked at h m = subst (LooksAt r off) (sym at) (inr m)

-- and a portion of their text
abbrev Answers : ℕ → ℕ → ℕ → ℕ → Result Portion ViewRefusal → Option (List Line) → Type 0
Answers off lim skip most r o =
    MatchOption o (r ≡ Err NoLog) (λ lines. (r ≡ Err Mem) ⊎ ((p : Portion) × (r ≡ Ok p) × IsPortion lines off lim skip most p))

pub looked-portion : {E : Type 0} (made : Result Portion E) (r : Result Portion ViewRefusal) (ls : List Logs) (k : ℕ) (name : Name) (off lim skip most : ℕ) (lines : List Line)
    → lines_in_log ls k name ≡ Some lines → IfOk made (λ p. IsPortion lines off lim skip most p) → MatchResult made (λ p. r ≡ Ok p) (λ e. r ≡ Err Mem)
    → LooksAtPortion ls k name off lim skip most r
looked-portion (Ok p) r ls k name off lim skip most lines at h m = subst (Answers off lim skip most r) (sym at) (inr (p, m, h))
looked-portion (Err e) r ls k name off lim skip most lines at h m = subst (Answers off lim skip most r) (sym at) (inl m)
