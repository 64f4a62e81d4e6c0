-- What a worker answers to a request, as the result of a response.
use Rattle.std.specs.Prelude.{codes, Bool, true, false}
use Rattle.bm_value.specs.Tree.{Tree, nil, str, dict, no_pairs, pair}
use Rattle.bm_work.specs.declared.worker_answer.WorkerAnswer.{WorkerAnswer}
use Rattle.bm_work.specs.declared.worker_answer.WorkerAnswer.TheVariants.{Done, Info, BadArguments, NoSuchCommandName, AlreadyRuns, TooManyCommands, NoSuchCommand, NoSuchOperation}

-- what a worker tells of itself
abbrev pub info : Tree
info = dict (pair (str (codes "version")) (str (codes "buildworker 1")) no_pairs)

abbrev pub result_of : WorkerAnswer → Tree
result_of Done = nil
result_of Info = info
result_of BadArguments = str (codes "bad arguments")
result_of NoSuchCommandName = str (codes "no such command name")
result_of AlreadyRuns = str (codes "command already runs")
result_of TooManyCommands = str (codes "too many commands")
result_of NoSuchCommand = str (codes "no such command")
result_of NoSuchOperation = str (codes "no such operation")

abbrev pub is_done : WorkerAnswer → Bool
is_done Done = true
is_done _ = false

abbrev pub is_exception : WorkerAnswer → Bool
is_exception Done = false
is_exception Info = false
is_exception _ = true
