-- Lemmas on viewers that leave a pool and come back.
use Rattle.std.proofs.Common.{◌≡◌, ℕ, ◌≤◌, ◌<◌, Bool, true, false, List, [], ◌∷◌, ◌++◌, length, get_or, set, Option, Some, None, Result, Ok, Err, OnOk, OnErr, IfSome, IfNone, MatchOption, refl, sym, ap, ◌∙◌, arith}
use Rattle.std.specs.List.{slice_get}
use Rattle.std.specs.Option.{option_map_or, option_to_list}
use Rattle.std.specs.Result.{is_ok}
use Rattle.std.proofs.lemmas.Bool.{and_from, eq-eqb, lt-ltb, true≢false}
use Rattle.std.proofs.lemmas.List.{length-append, set-get_or}
use Rattle.std.proofs.lemmas.Option.{get_or_from_slice_get, slice_get_past}
use Rattle.bm_lane.specs.Ends.{AllOf, Watched}
use Rattle.bm_board.specs.declared.refusal.BoardRefusal.TheVariants.{NoBuild}
use Rattle.bm_board.specs.ScheduledBuild.{result_in}
use Rattle.bm_board.specs.Board.{BoardState}
use Rattle.bm_build_queue.specs.ViewerPool.{IsGiven, IsTaken, PoolState, is_taken_back, takes, with_viewer}
use Rattle.bm_build_queue.specs.BuildQueue.{HasResult, IsOver}

none_left : (n : ℕ) (xs : List Watched) → n ≡ length xs → n ≡ 0 → xs ≡ []
none_left n [] l z = refl
none_left n (x ∷ xs) l z = absurd (omega arith)

-- a pool by its parts
abbrev pub pool_of : ℕ → ℕ → List Watched → PoolState
pool_of lane room viewers = record { lane = lane; room = room; viewers = viewers }

-- the last viewer left the pool
pub last_left : (lane room after : ℕ) (old new : List Watched) (now : PoolState) (r : Option Watched) → pool_of lane room old ≡ now → after ≡ room
    → old ≡ new ++ option_to_list r → IfSome r (λ v. now ≡ with_viewer (pool_of lane after new) v)
last_left lane room after old new now (Some v) s k h =
    sym s ∙ ap (pool_of lane room) h ∙ ap (λ n. pool_of lane n (new ++ v ∷ [])) (sym k)
last_left lane room after old new now None s k h = tt

last_of : (xs : List Watched) (v : Watched) → get_or (xs ++ v ∷ []) (length xs) v ≡ v
last_of [] v = refl
last_of (x ∷ xs) v = last_of xs v

-- the pool takes it back
pub room_left : (lane room after : ℕ) (old new : List Watched) (r : Option Watched) → AllOf lane old → after ≡ room → length old ≤ room
    → old ≡ new ++ option_to_list r → IfSome r (λ v. takes (pool_of lane after new) v ≡ true)
room_left lane room after old new (Some v) own k few h =
    let len = ap length h ∙ length-append new (v ∷ []) in
    let his : v.lane ≡ lane =
    sym (ap (λ (x : Watched). x.lane) (ap (λ xs. get_or xs (length new) v) h ∙ last_of new v)) ∙ own (length new) v (omega (arith, len)) in
    and_from _ _ (eq-eqb v.lane lane his) (lt-ltb (length new) after (omega (arith, len, few, k)))
room_left lane room after old new None own k few h = tt

-- no viewer was there
pub none_there : (lane room : ℕ) (old : List Watched) (now : PoolState) (r : Option Watched) (n m : ℕ) (P : Watched → Type 0) → pool_of lane room old ≡ now
    → n ≡ length old → MatchOption r ((n ≡ 0) × (m ≡ 0)) P → IfNone r (now.viewers ≡ [])
none_there lane room old now (Some v) n m P s l h = tt
none_there lane room old now None n m P s l h = sym (ap (λ (p : PoolState). p.viewers) s) ∙ none_left n old l h.0

pub still_none : (lane room after : ℕ) (old new : List Watched) (now : PoolState) (r : Option Watched) (n m : ℕ) (P : Watched → Type 0) → pool_of lane room old ≡ now → after ≡ room
    → n ≡ length old → m ≡ length new → MatchOption r ((n ≡ 0) × (m ≡ 0)) P → IfNone r (pool_of lane after new ≡ now)
still_none lane room after old new now (Some v) n m P s c l k h = tt
still_none lane room after old new now None n m P s c l k h =
    ap (pool_of lane after) (none_left m new k h.1 ∙ sym (none_left n old l h.0)) ∙ ap (λ x. pool_of lane x old) c ∙ s

-- a viewer left the pool at a place
pub left_at : (ps now : List PoolState) (w : ℕ) (pool left : PoolState) (r : Option Watched) → ps ≡ now → slice_get ps w ≡ Some pool
    → IfSome r (λ v. pool ≡ with_viewer left v) → IfSome r (λ v. takes left v ≡ true) → IfSome r (λ v. IsTaken now (set ps w left) w v)
left_at ps now w pool left None s e h k = tt
left_at ps now w pool left (Some v) s e h k =
    record { left = left; there = ap (λ xs. slice_get xs w) (sym s) ∙ e ∙ ap Some h; rest = ap (λ xs. set xs w left) s; room = k }

-- whether the pool at a place takes a viewer back
pub back_at : (ps now : List PoolState) (n : ℕ) (viewer : Watched) (pool : PoolState) (b : Bool) → ps ≡ now → n ≡ viewer.lane → slice_get ps n ≡ Some pool
    → b ≡ takes pool viewer → b ≡ is_taken_back now viewer
back_at ps now n viewer pool b s l e h =
    h ∙ ap (λ o. option_map_or (λ p. takes p viewer) o false) (sym e)
    ∙ ap (λ k. option_map_or (λ p. takes p viewer) (slice_get ps k) false) l ∙ ap (λ z. is_taken_back z viewer) s

on_ok : {X Y : Type 0} (r : Result X Y) (P : Type 0) → OnOk r P → is_ok r ≡ true → P
on_ok (Ok x) P h e = h
on_ok (Err x) P h e = absurd (true≢false (sym e))

-- a viewer came back to the pool at a place
pub given_at : {X Y : Type 0} (ps now : List PoolState) (n : ℕ) (viewer : Watched) (pool new : PoolState) (r : Result X Y) → ps ≡ now → n ≡ viewer.lane → slice_get ps n ≡ Some pool
    → OnOk r (new ≡ with_viewer pool viewer) → is_ok r ≡ true → IsGiven now (set ps n new) viewer.lane viewer
given_at ps now n viewer pool new r s l e h o =
    record {
      before = pool;
      there = ap (λ xs. slice_get xs viewer.lane) (sym s) ∙ ap (λ k. slice_get ps k) (sym l) ∙ e;
      rest = ap (λ x. set ps n x) (on_ok r (new ≡ with_viewer pool viewer) h o) ∙ ap (λ k. set ps k (with_viewer pool viewer)) l ∙ ap (λ xs. set xs viewer.lane (with_viewer pool viewer)) s;
    }

-- a viewer that was refused leaves the pools
pub lost_at : {X Y : Type 0} (ps now : List PoolState) (n : ℕ) (pool new : PoolState) (r : Result X Y) → ps ≡ now → slice_get ps n ≡ Some pool
    → OnErr r (new ≡ pool) → is_ok r ≡ false → set ps n new ≡ now
lost_at ps now n pool new (Ok x) s e h o = absurd (true≢false o)
lost_at ps now n pool new (Err x) s e h o =
    ap (set ps n) (h ∙ sym (get_or_from_slice_get ps n pool pool e)) ∙ set-get_or ps n pool ∙ s

-- where no pool is, none takes a viewer back
pub none_back : (ps now : List PoolState) (n : ℕ) (viewer : Watched) → ps ≡ now → n ≡ viewer.lane → length ps ≤ n → false ≡ is_taken_back now viewer
none_back ps now n viewer s l past =
    ap (λ o. option_map_or (λ p. takes p viewer) o false) (sym (slice_get_past ps n past))
    ∙ ap (λ k. option_map_or (λ p. takes p viewer) (slice_get ps k) false) l ∙ ap (λ z. is_taken_back z viewer) s

-- each build before a number that no build has has its result
pub over : (b : BoardState) (n : ℕ) → length b.jobs ≤ n → ((k : ℕ) → k < n → HasResult b k) → IsOver b
over b n l each =
    record { number = n; none = (NoBuild, ap (λ o. option_map_or (λ job. Ok (result_in job.phase)) o (Err NoBuild)) (slice_get_past b.jobs n l)); each = each }
