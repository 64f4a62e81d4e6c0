use Rattle.bm_store.proofs.Books.{books_have_the_logs, visible_books_have_the_logs}
use Rattle.bm_store.proofs.Looks.{books_answer_looks}
use Rattle.bm_store.proofs.laws.books_have_the_logs.Goals as goal

pub returns-clause-all : goal.returns-clause-all
returns-clause-all c = books_have_the_logs

pub returns-clause-visible : goal.returns-clause-visible
returns-clause-visible c = visible_books_have_the_logs

pub returns-clause-answers : goal.returns-clause-answers
returns-clause-answers c = books_answer_looks
