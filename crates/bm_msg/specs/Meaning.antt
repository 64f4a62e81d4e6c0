-- Messages without where they lie in memory: texts as bytes, values as trees.
use Rattle.std.specs.Prelude.{ℕ, List, Option, Bool}
use Rattle.bm_value.specs.Tree.{Tree}
use Rattle.bm_value.specs.View.{tree}
use Rattle.bm_msg.specs.declared.field.Field.{Field}
use Rattle.bm_msg.specs.declared.request.Request.{Request}
use Rattle.bm_msg.specs.declared.request.Request.TheVariants.{Auth, Print, Keepalive, GetWorkerInfo, StartCommand, InterruptCommand, Shutdown, Update, Complete, Unknown}
use Rattle.bm_msg.specs.declared.message.Message.{Message}
use Rattle.bm_msg.specs.declared.message.Message.TheVariants as message
use Rattle.bm_msg.specs.declared.message.Numbered.{Numbered}
use Rattle.bm_msg.specs.declared.message.Response.{Response}

-- what a request asks
pub data Asked : Type 0 where
  auth : List ℕ → List ℕ → Option (List ℕ) → Asked
  print : List ℕ → Asked
  keepalive : Asked
  get_worker_info : Asked
  start_command : ℕ → List ℕ → Tree → Asked
  interrupt_command : ℕ → List ℕ → Asked
  shutdown : Asked
  update : ℕ → List Field → Asked
  complete : ℕ → Option (List ℕ) → Asked
  unknown : List ℕ → Asked

-- a request with its number, or a response with the number, the result and whether it is an
-- exception
pub data Meaning : Type 0 where
  request : ℕ → Asked → Meaning
  response : ℕ → Tree → Bool → Meaning

abbrev pub asked : Request → Asked
asked (Auth username password session) = auth username password session
asked (Print message) = print message
asked Keepalive = keepalive
asked GetWorkerInfo = get_worker_info
asked (StartCommand command name args) = start_command command name (tree args)
asked (InterruptCommand command why) = interrupt_command command why
asked Shutdown = shutdown
asked (Update command fields) = update command fields
asked (Complete command fault) = complete command fault
asked (Unknown op) = unknown op

abbrev pub request_of : Numbered → Meaning
request_of n = request n.seq (asked n.request)

abbrev pub response_of : Response → Meaning
response_of r = response r.seq (tree r.result) r.exception

abbrev pub meaning : Message → Meaning
meaning (message.Request n) = request_of n
meaning (message.Response r) = response_of r
