-- What a note adds to the history of a worker.
use Rattle.std.specs.Prelude.{ℕ, List, [], ◌∷◌}
use Rattle.bm_work.specs.Stream.{Report, text}
use Rattle.bm_work.specs.Reports.{reports_of}
use Rattle.bm_work.specs.declared.history.Note.{Note}
use Rattle.bm_work.specs.declared.history.Note.TheVariants.{Text, End, WorkerAnswer}

abbrev pub reported_by : Note → List Report
reported_by (Text k letter t) = text k letter t.now ∷ []
reported_by (End k finish) = reports_of k finish.now
reported_by (WorkerAnswer n) = []

abbrev pub answered_by : Note → List ℕ
answered_by (Text k letter t) = []
answered_by (End k finish) = []
answered_by (WorkerAnswer n) = n ∷ []
