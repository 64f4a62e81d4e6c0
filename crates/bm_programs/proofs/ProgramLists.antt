-- Loops over the workers and over their programs.
use Rattle.std.proofs.Common.{◌≡◌, ◌∙◌, ap, ℕ, ◌+◌, ◌<◌, ◌≤◌, refl, List, [], ◌∷◌, arith, map, length, get_or, zero, suc, take, drop, set, ◌++◌}
use Rattle.std.specs.Prelude.{Option}
use Rattle.bm_config.specs.declared.config.WorkerConfig.{WorkerConfig}
use Rattle.std.specs.Prelude.{slice_get, Some, None}
use Rattle.std.proofs.lemmas.Option.{slice_get_read, slice_get_past}
use Rattle.bm_programs.specs.WorkerPrograms.{IsProgramOf, AreProgramsOf, Changes, ChangesOne}
use Rattle.bm_programs.specs.declared.worker_process.WorkerProcess.{WorkerProcess}

-- one element more was changed
pub changed_more : {A : Type 0} (f : A → A) (old now : List A) (i : ℕ) (x y : A) → i < length now → y ≡ f (get_or now i x) → now ≡ map f (take i old) ++ drop i old → length old ≡ length now → set now i y ≡ map f (take (i + 1) old) ++ drop (i + 1) old
changed_more f [] now i x y l g h len = absurd (omega arith)
changed_more f (z ∷ zs) [] i x y l g h len = absurd (omega arith)
changed_more f (z ∷ zs) (w ∷ ws) zero x y l g h len = let a : w ≡ z = cc in let b : ws ≡ zs = cc in ap (λ v. v ∷ ws) (g ∙ ap f a) ∙ ap (λ v. f z ∷ v) b
changed_more f (z ∷ zs) (w ∷ ws) (suc i) x y l g h len =
    let a : w ≡ f z = cc in
    let b : ws ≡ map f (take i zs) ++ drop i zs = cc in
    let one : suc i + 1 ≡ suc (i + 1) = omega arith in
    rw one (ap (λ v. v ∷ set ws i y) a ∙ ap (λ v. f z ∷ v) (changed_more f zs ws i x y (omega arith) g b (omega arith)))

-- the workers and one more
pub and_one : (master : List ℕ) (ws : List WorkerConfig) (ps : List (Option WorkerProcess)) (w : WorkerConfig) (p : Option WorkerProcess) → AreProgramsOf master ws ps → IsProgramOf master w.latent p → AreProgramsOf master (ws ++ w ∷ []) (ps ++ p ∷ [])
and_one master [] [] w p each one = (one, tt)
and_one master (v ∷ vs) (q ∷ qs) w p (first, each) one = (first, and_one master vs qs w p each one)
and_one master [] (q ∷ qs) w p each one = absurd each
and_one master (v ∷ vs) [] w p each one = absurd each

-- a program in the list has changed
pub changes_here : (missing : Type 0) (change : WorkerProcess → WorkerProcess → Type 0) (worker : ℕ) (old : List (Option WorkerProcess)) (x y : Option WorkerProcess) → worker < length old → x ≡ get_or old worker x → ChangesOne missing change x y → Changes missing change worker old (set old worker y)
unfolding Changes
changes_here missing change worker old x y within read one =
    let there : slice_get old worker ≡ Some x = slice_get_read old (length old) worker x refl within read in
    rw there (y, one, refl)

-- there is no program of this number
pub changes_past : (missing : Type 0) (change : WorkerProcess → WorkerProcess → Type 0) (worker : ℕ) (old : List (Option WorkerProcess)) → length old ≤ worker → missing → Changes missing change worker old old
unfolding Changes
changes_past missing change worker old past miss =
    let there : slice_get old worker ≡ None = slice_get_past old worker past in
    rw there (miss, refl)
