-- The responses of a worker.
use Rattle.std.specs.Prelude.{ℕ, List}
use Rattle.bm_value.specs.Writing.{written}
use Rattle.bm_msg.specs.Meaning.{response}
use Rattle.bm_msg.specs.Trees.{tree_of}
use Rattle.bm_work.specs.declared.worker_answer.WorkerAnswer.{WorkerAnswer}
use Rattle.bm_work.specs.WorkerAnswers.{result_of, is_exception}

-- the bytes of the response to request n
unfoldable pub reply : ℕ → WorkerAnswer → List ℕ
reply n a = written (tree_of (response n (result_of a) (is_exception a)))
