use Rattle.bm_store.proofs.Meaning.{kept_books_mean_logs}
use Rattle.bm_store.proofs.laws.kept_books_mean_logs.Goals as goal

pub returns : goal.returns
returns c = kept_books_mean_logs
