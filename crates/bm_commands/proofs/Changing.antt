-- A loop that changes each row, and one that looks for the first wake.
use Rattle.std.proofs.Common.{◌≡◌, sym, ◌∙◌, ap, ℕ, ◌+◌, ◌<◌, List, [], ◌∷◌, Option, None, arith, map, length, get_or, zero, suc, take, drop, set, ◌++◌}
use Rattle.std.proofs.lemmas.List.Sums.{fold_more}
use Rattle.bm_commands.specs.Rows.{row_wake}
use Rattle.bm_commands.specs.Queues.{sooner, wake}
use Rattle.bm_commands.specs.declared.values.CommandRow.{CommandRow}

-- one element more was changed
pub changed_more : {A : Type 0} (f : A → A) (old now : List A) (i : ℕ) (x y : A) → i < length now → y ≡ f (get_or now i x) → now ≡ map f (take i old) ++ drop i old → length old ≡ length now → set now i y ≡ map f (take (i + 1) old) ++ drop (i + 1) old
changed_more f [] now i x y l g h len = absurd (omega arith)
changed_more f (z ∷ zs) [] i x y l g h len = absurd (omega arith)
changed_more f (z ∷ zs) (w ∷ ws) zero x y l g h len = let a : w ≡ z = cc in let b : ws ≡ zs = cc in ap (λ v. v ∷ ws) (g ∙ ap f a) ∙ ap (λ v. f z ∷ v) b
changed_more f (z ∷ zs) (w ∷ ws) (suc i) x y l g h len =
    let a : w ≡ f z = cc in
    let b : ws ≡ map f (take i zs) ++ drop i zs = cc in
    let one : suc i + 1 ≡ suc (i + 1) = omega arith in
    rw one (ap (λ v. v ∷ set ws i y) a ∙ ap (λ v. f z ∷ v) (changed_more f zs ws i x y (omega arith) g b (omega arith)))

-- one row more was asked
pub wake_more : (rows : List CommandRow) (i : ℕ) (d : CommandRow) → i < length rows → wake (take (i + 1) rows) ≡ sooner (wake (take i rows)) (row_wake (get_or rows i d))
wake_more rows i d lt = fold_more (λ w r. sooner w (row_wake r)) None rows i d lt
