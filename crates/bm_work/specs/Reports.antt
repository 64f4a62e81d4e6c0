-- What a worker reports of the end of a command.
use Rattle.std.specs.Prelude.{ℕ, List, [], ◌∷◌, Some, None}
use Rattle.bm_work.specs.Stream.{Report, code, over}
use Rattle.bm_work.specs.declared.sent.Finish.{Finish}
use Rattle.bm_work.specs.declared.sent.Finish.TheVariants.{Rc, Fault}

-- its exit code and a complete, or a complete with a fault
abbrev pub reports_of : ℕ → Finish → List Report
reports_of k (Rc z) = code k z ∷ over k None ∷ []
reports_of k (Fault fault) = over k (Some fault) ∷ []

-- the text that names the fault
abbrev pub fault_of : Finish → List ℕ
fault_of (Rc z) = []
fault_of (Fault fault) = fault
