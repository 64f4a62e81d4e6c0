-- Before the wake no row is lost or gone, and none is to be looked at.
use Rattle.std.proofs.Common.{◌≡◌, refl, sym, ap, ◌∙◌, ℕ, ◌+◌, ◌<◌, Bool, false, List, [], ◌∷◌, length, get_or, zero, suc, true≢false, Option, Some, None, arith}
use Rattle.std.specs.Prelude.{◌&&◌, ◌^◌, ◌-◌, fold, max, min, nat_le, position}
use Rattle.std.proofs.lemmas.Bool.Decides.{nat_tests}
use Rattle.std.proofs.lemmas.List.Quantifiers.{position-Some}
use Rattle.bm_commands.specs.declared.values.Effect.TheVariants as effect
use Rattle.bm_commands.specs.declared.values.CommandPhase.{CommandPhase}
use Rattle.bm_commands.specs.declared.values.CommandPhase.TheVariants as phase
use Rattle.bm_commands.specs.declared.values.CommandRow.{CommandRow}
use Rattle.bm_commands.specs.Rows.{fresh_row, is_due, is_gone, is_lost, phase_is_gone, phase_is_lost, phase_is_watched, row_wake, wake_in}
use Rattle.bm_commands.specs.Queues.{Acted, forgets_or, kills_or, looks, sooner, ticked, wake}
use Rattle.bm_commands.specs.Laws.{IsBefore, SleepsUntilWake}

before-sooner : (n : ℕ) (a b : Option ℕ) → IsBefore n (sooner a b) → IsBefore n a × IsBefore n b
before-sooner n None b h = (tt, h)
before-sooner n (Some a) None h = (h, tt)
before-sooner n (Some a) (Some b) h = (omega (arith, h), omega (arith, h))

before-all : (n : ℕ) (acc : Option ℕ) (rows : List CommandRow) → IsBefore n (fold (λ w r. sooner w (row_wake r)) acc rows) → IsBefore n acc
before-all n acc [] h = h
before-all n acc (x ∷ xs) h = (before-sooner n acc (row_wake x) (before-all n (sooner acc (row_wake x)) xs h)).0

-- no row passes a test that fails before its own wake
all-fail : (test : CommandRow → Bool) (n : ℕ) (d : CommandRow) → ((r : CommandRow) → IsBefore n (row_wake r) → test r ≡ false) → (rows : List CommandRow) (acc : Option ℕ) → IsBefore n (fold (λ w r. sooner w (row_wake r)) acc rows) → (k : ℕ) → k < length rows → test (get_or rows k d) ≡ false
all-fail test n d fails [] acc h k lt = absurd (omega (arith, lt))
all-fail test n d fails (r ∷ rs) acc h zero lt = fails r (before-sooner n acc (row_wake r) (before-all n (sooner acc (row_wake r)) rs h)).1
all-fail test n d fails (r ∷ rs) acc h (suc k) lt = all-fail test n d fails rs (sooner acc (row_wake r)) h k (omega (arith, lt))

none-passes : (test : CommandRow → Bool) (n : ℕ) → ((r : CommandRow) → IsBefore n (row_wake r) → test r ≡ false) → (rows : List CommandRow) → IsBefore n (wake rows) → position test rows ≡ None
none-passes test n fails rows h = go (position test rows) refl
  where
    go : (o : Option ℕ) → position test rows ≡ o → o ≡ None
    go None e = refl
    go (Some i) e =
        let found = position-Some test rows i (fresh_row 0 0 0) e in
        absurd (true≢false (sym found.1 ∙ all-fail test n (fresh_row 0 0 0) fails rows None h i found.0))

not-lost : (n : ℕ) (q : CommandPhase) (r : CommandRow) → IsBefore n (wake_in q r) → phase_is_lost q ≡ false
not-lost n phase.Lost r h = absurd (omega (arith, h))
not-lost n q r h = refl

not-gone : (n : ℕ) (q : CommandPhase) (r : CommandRow) → IsBefore n (wake_in q r) → phase_is_gone q ≡ false
not-gone n phase.Gone r h = absurd (omega (arith, h))
not-gone n q r h = refl

too-early : (n at : ℕ) → n < at → nat_le at n ≡ false
too-early n at h = grind (arith, nat_tests, h)

not-due : (n : ℕ) (q : CommandPhase) (r : CommandRow) → IsBefore n (wake_in q r) → (phase_is_watched q && nat_le (min (r.looked_ms + r.pause_ms) (2 ^ 64 - 1)) n) ≡ false
not-due n phase.Runs r h = too-early n (min (r.looked_ms + r.pause_ms) (2 ^ 64 - 1)) h
not-due n (phase.Stopping why ms) r h = too-early n (min (r.looked_ms + r.pause_ms) (2 ^ 64 - 1)) h
not-due n phase.Owed r h = too-early n (min (r.looked_ms + r.pause_ms) (2 ^ 64 - 1)) h
not-due n q r h = refl

still : (n : ℕ) (rows : List CommandRow) (a b c : Option ℕ) → a ≡ None → b ≡ None → c ≡ None → position is_gone rows ≡ b → position (is_due n) rows ≡ c → kills_or a n rows ≡ (rows, effect.Nothing)
still n rows a b c ea eb ec eg ed =
    ap (λ o. kills_or o n rows) ea ∙ ap (λ o. forgets_or o n rows) (eg ∙ eb) ∙ ap (looks rows) (ed ∙ ec)

quiet : (n : ℕ) (rows : List CommandRow) → IsBefore n (wake rows) → ticked n rows ≡ (rows, effect.Nothing)
quiet n rows h =
    still n rows (position is_lost rows) (position is_gone rows) (position (is_due n) rows)
    (none-passes is_lost n (λ r g. not-lost n r.phase r g) rows h)
    (none-passes is_gone n (λ r g. not-gone n r.phase r g) rows h)
    (none-passes (is_due n) n (λ r g. not-due n r.phase r g) rows h)
    refl refl

pub sleeps_until_wake : SleepsUntilWake
sleeps_until_wake q now h = (
  ap (λ (a : Acted). a.1) (quiet (max q.now_ms now) q.rows h),
  ap (λ (a : Acted). a.0) (quiet (max q.now_ms now) q.rows h),
)
