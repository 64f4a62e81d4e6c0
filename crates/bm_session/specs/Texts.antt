-- The texts that programs print and send.
use Rattle.std.specs.Prelude.{ℕ, List, codes, Option, Some, None}
use Rattle.bm_session.specs.declared.reply.Verdict.{Verdict}
use Rattle.bm_session.specs.declared.reply.Verdict.TheVariants.{Done, NoCommand, BadArgs, AuthAgain, NoSuchOp}
use Rattle.bm_session.specs.declared.results.Results.{Results}
use Rattle.bm_session.specs.declared.results.Results.TheVariants.{Success, Warnings, Failure, Skipped, Exception, Retry, Cancelled}

-- the name of a result (Buildbot manual, build result codes)
abbrev pub result_name : Results → List ℕ
result_name Success = codes "SUCCESS"
result_name Warnings = codes "WARNINGS"
result_name Failure = codes "FAILURE"
result_name Skipped = codes "SKIPPED"
result_name Exception = codes "EXCEPTION"
result_name Retry = codes "RETRY"
result_name Cancelled = codes "CANCELLED"

-- the text of the exception that answers a request: none where it is answered nil
abbrev pub exception_text : Verdict → Option (List ℕ)
exception_text Done = None
exception_text NoCommand = Some (codes "no such command")
exception_text BadArgs = Some (codes "bad arguments")
exception_text AuthAgain = Some (codes "already authenticated")
exception_text NoSuchOp = Some (codes "no such operation")
