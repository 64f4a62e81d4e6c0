-- What is changed of one process.
use Rattle.std.proofs.Common.{◌≡◌, ℕ, ◌<◌, List, length, get_or, position, set, Some, Result, Ok, Err, refl, sym, subst}
use Rattle.std.specs.Prelude.{OnOk}
use Rattle.std.proofs.lemmas.Option.{slice_get_read}
use Rattle.bm_worker_threads.specs.Carrying.{ChangesAt, ChangesOf}
use Rattle.bm_worker_threads.specs.Turns.{is_of}
use Rattle.bm_worker_threads.specs.declared.process_parts.ProcessParts.{ProcessParts}

pub on_ok : {T E : Type 0} {A B : Type 0} (r : Result T E) → (A → B) → OnOk r A → OnOk r B
on_ok (Ok x) h a = h a
on_ok (Err e) h a = tt

-- what is found of a process is changed, and nothing else
pub changes_of : (process : ℕ) (Changes : ProcessParts → ProcessParts → Type 0) (old : List ProcessParts) (at : ℕ) (part changed : ProcessParts)
    → position (is_of process) old ≡ Some at → at < length old → part ≡ get_or old at part → Changes part changed
    → ChangesOf process Changes old (set old at changed)
changes_of process Changes old at part changed here low read change =
    subst (λ o. ChangesAt Changes o old (set old at changed)) (sym here) (part, changed, slice_get_read old (length old) at part refl low read, change, refl)
