-- What a worker sends is read as the event that it was meant as.
use Rattle.std.proofs.Common.{◌≡◌, refl, ◌∙◌, subst, inl, ℕ, ◌≤◌, arith}
use Rattle.bm_value.specs.Tree.{depth}
use Rattle.bm_msg.specs.Meaning.{request, response}
use Rattle.bm_msg.specs.Trees.{tree_of}
use Rattle.bm_msg.proofs.ReadsBack.{message_back}
use Rattle.bm_link.specs.Incoming.{IsEventOf}
use Rattle.bm_work.specs.Stream.{Report, text, code, over, asked_by, sent}
use Rattle.bm_work.specs.WorkerAnswers.{is_exception, result_of}
use Rattle.bm_work.specs.declared.worker_answer.WorkerAnswer.{WorkerAnswer}
use Rattle.bm_work.specs.declared.worker_answer.WorkerAnswer.TheVariants as work
use Rattle.bm_replay.specs.Schedule.{as_heard}
use Rattle.bm_replay.specs.Wire.{AreRead}
use Rattle.bm_replay.proofs.Bytes.{bytes_are_read}
use Rattle.bm_wired.specs.ReadBack.{event_of_report, ReportsAreRead, ResponsesAreRead}
use Rattle.bm_wired.proofs.ReadBack.{sent-event, reply-event, reply-spelled, plain}

-- what is read is the event of a schedule

as-reported : (n : ℕ) (r : Report) → as_heard n r ≡ event_of_report n r
as-reported n (text k letter t) = refl
as-reported n (code k z) = refl
as-reported n (over k fault) = refl

report-read : (n : ℕ) (r : Report) → AreRead (sent n r).bytes (request n (asked_by r)) → IsEventOf (sent n r).bytes (as_heard n r)
report-read n r a = (a.tree, a.spelled, a.nests, inl (request n (asked_by r), a.told, refl))

pub reports_are_read : ReportsAreRead
reports_are_read n r low can = record {
  is = subst (λ e. IsEventOf (sent n r).bytes e) (as-reported n r) (report-read n r (bytes_are_read n r low can));
  alone = λ other x. sent-event n r other low can x ∙ as-reported n r;
}

-- a response

flat : (n : ℕ) (a : WorkerAnswer) → depth (tree_of (response n (result_of a) (is_exception a))) ≤ 32
flat n work.Done = omega arith
flat n work.Info = omega arith
flat n work.BadArguments = omega arith
flat n work.NoSuchCommandName = omega arith
flat n work.AlreadyRuns = omega arith
flat n work.TooManyCommands = omega arith
flat n work.NoSuchCommand = omega arith
flat n work.NoSuchOperation = omega arith

pub responses_are_read : ResponsesAreRead
responses_are_read n a low = record {
  is = (
    tree_of (response n (result_of a) (is_exception a)),
    reply-spelled n a low,
    flat n a,
    inl (response n (result_of a) (is_exception a), message_back (response n (result_of a) (is_exception a)) (low, plain a), refl),
  );
  alone = λ other x. reply-event n a other low x;
}
