-- What each remark of a build master says, and the line and the object that tell it.
use Rattle.std.specs.Prelude.{ℕ, ◌+◌, ◌*◌, ◌==◌, if◌then◌else◌, List, [], ◌∷◌, codes}
use Rattle.std.specs.declared.net.socket_addr.SocketAddr.{SocketAddr}
use Rattle.bm_session.specs.Texts.{result_name}
use Rattle.bm_session.specs.declared.results.Results.{Results}
use Rattle.bm_operator.specs.declared.log_id.LogId.{LogId}
use Rattle.bm_operator.specs.declared.reasons.LoginRefusal.{LoginRefusal}
use Rattle.bm_operator.specs.declared.reasons.LossCause.{LossCause}
use Rattle.bm_operator.specs.declared.reasons.ProgramRefusal.{ProgramRefusal}
use Rattle.bm_operator.specs.declared.reasons.StartRefusal.{StartRefusal}
use Rattle.bm_operator.specs.declared.reasons.StepLimit.{StepLimit}
use Rattle.bm_operator.specs.declared.remark.Remark.{Remark}
use Rattle.bm_operator.specs.declared.step_at.StepAt.{StepAt}
use Rattle.bm_operator.specs.declared.remark.Remark.TheVariants.{LoggedIn, Resumed, Cut, Lost, Dismissed, ShutDown, Filled, LoginRefused, ConnectionRefused, MoreRefused, NotTold, AcceptingPaused, Counted, UnknownKey, MisspeltKey, InputUnknown, BuildMissing, BuildWaits, BuildUnstarted, BuildStarted, BuildEnded, BuildCancelled, StepStarted, StepRefused, StepStopped, StepFailed, StepEnded, ProgramStarted, ProgramFailed, ProgramEnded}
use Rattle.bm_operator.specs.Reasons.{limit_text, loss_text, program_text, refusal_text, start_text}
use Rattle.bm_operator.specs.Told.{Told, of_number, of_name, of_word, of_address, of_member, line_of, object_of}

-- a log's id on the web: its command's number times the number of lanes, plus the lane's place
abbrev pub log_number : LogId → ℕ
log_number log = log.command * log.lanes + log.lane

-- the words for one of a thing, or for another number of it
abbrev pub plural : ℕ → List ℕ → List ℕ → List ℕ
plural n one many = if n == 1 then one else many

abbrev pub logged_in : List ℕ → Told
logged_in worker =
    record {
      kind = codes "worker_logged_in";
      fields = of_name (codes "worker ") (codes "worker") worker ∷ [];
      tail = codes " logged in";
    }

abbrev pub resumed : List ℕ → Told
resumed worker =
    record {
      kind = codes "worker_resumed";
      fields = of_name (codes "worker ") (codes "worker") worker ∷ [];
      tail = codes " resumed";
    }

abbrev pub worker_cut : List ℕ → LossCause → Told
worker_cut worker cause =
    record {
      kind = codes "worker_cut";
      fields =
          of_name (codes "worker ") (codes "worker") worker
          ∷ of_word (codes " cut, ") (codes "cause") (loss_text cause)
          ∷ [];
      tail = codes "";
    }

abbrev pub worker_lost : List ℕ → LossCause → Told
worker_lost worker cause =
    record {
      kind = codes "worker_lost";
      fields =
          of_name (codes "worker ") (codes "worker") worker
          ∷ of_word (codes " lost, ") (codes "cause") (loss_text cause)
          ∷ [];
      tail = codes "";
    }

abbrev pub dismissed : List ℕ → Told
dismissed worker =
    record {
      kind = codes "worker_told_to_shut_down";
      fields = of_name (codes "worker ") (codes "worker") worker ∷ [];
      tail = codes " told to shut down";
    }

abbrev pub shut_down : List ℕ → Told
shut_down worker =
    record {
      kind = codes "worker_shut_down";
      fields = of_name (codes "worker ") (codes "worker") worker ∷ [];
      tail = codes " shut down";
    }

abbrev pub filled : List ℕ → Told
filled worker =
    record {
      kind = codes "worker_full";
      fields = of_name (codes "worker ") (codes "worker") worker ∷ [];
      tail = codes " full";
    }

abbrev pub login_refused : List ℕ → SocketAddr → LoginRefusal → Told
login_refused name from why =
    record {
      kind = codes "login_refused";
      fields =
          of_word (codes "login refused, ") (codes "cause") (refusal_text why)
          ∷ of_address (codes ", from ") (codes "from") from
          ∷ of_name (codes ": ") (codes "name") name
          ∷ [];
      tail = codes "";
    }

abbrev pub connection_refused : SocketAddr → LoginRefusal → Told
connection_refused from why =
    record {
      kind = codes "connection_refused";
      fields =
          of_word (codes "connection refused, ") (codes "cause") (refusal_text why)
          ∷ of_address (codes ", from ") (codes "from") from
          ∷ [];
      tail = codes "";
    }

abbrev pub more_refused : ℕ → Told
more_refused count =
    record {
      kind = codes "more_connections_refused";
      fields = of_number (codes "") (codes "count") count ∷ [];
      tail = codes " more connections refused";
    }

abbrev pub not_told : ℕ → Told
not_told count =
    record {
      kind = codes "remarks_not_told";
      fields = of_number (codes "") (codes "count") count ∷ [];
      tail = codes " remarks not told";
    }

abbrev pub paused : Told
paused =
    record {
      kind = codes "accepting_paused";
      fields = [];
      tail = codes "accepting paused";
    }

abbrev pub counted : ℕ → ℕ → ℕ → Told
counted workers builds steps =
    record {
      kind = codes "configuration_read";
      fields =
          of_number (codes "") (codes "workers") workers
          ∷ of_number (plural workers (codes " worker, ") (codes " workers, ")) (codes "builds") builds
          ∷ of_number (plural builds (codes " build, ") (codes " builds, ")) (codes "steps") steps
          ∷ [];
      tail = plural steps (codes " step") (codes " steps");
    }

abbrev pub unknown_key : List ℕ → List ℕ → Told
unknown_key place key =
    record {
      kind = codes "unknown_key";
      fields =
          of_name (codes "") (codes "where") place
          ∷ of_name (codes ": unknown key \"") (codes "key") key
          ∷ [];
      tail = codes "\"";
    }

abbrev pub misspelt_key : List ℕ → List ℕ → List ℕ → Told
misspelt_key place key near =
    record {
      kind = codes "unknown_key";
      fields =
          of_name (codes "") (codes "where") place
          ∷ of_name (codes ": unknown key \"") (codes "key") key
          ∷ of_name (codes "\", near \"") (codes "near") near
          ∷ [];
      tail = codes "\"";
    }

abbrev pub input_unknown : Told
input_unknown =
    record {
      kind = codes "input_not_understood";
      fields = [];
      tail = codes "input not understood";
    }

abbrev pub build_missing : ℕ → Told
build_missing build =
    record {
      kind = codes "build_not_there";
      fields = of_number (codes "build ") (codes "build") build ∷ [];
      tail = codes " is not there";
    }

abbrev pub build_waits : ℕ → List ℕ → Told
build_waits build worker =
    record {
      kind = codes "build_waits";
      fields =
          of_number (codes "build ") (codes "build") build
          ∷ of_name (codes " waits for ") (codes "worker") worker
          ∷ [];
      tail = codes "";
    }

abbrev pub build_unstarted : ℕ → Told
build_unstarted build =
    record {
      kind = codes "build_waits_for_thread";
      fields = of_number (codes "build ") (codes "build") build ∷ [];
      tail = codes " waits for a thread";
    }

abbrev pub build_started : ℕ → List ℕ → Told
build_started build worker =
    record {
      kind = codes "build_started";
      fields =
          of_number (codes "build ") (codes "build") build
          ∷ of_name (codes " started on ") (codes "worker") worker
          ∷ [];
      tail = codes "";
    }

abbrev pub build_ended : ℕ → Results → Told
build_ended build result =
    record {
      kind = codes "build_ended";
      fields =
          of_number (codes "build ") (codes "build") build
          ∷ of_word (codes " ended ") (codes "result") (result_name result)
          ∷ [];
      tail = codes "";
    }

abbrev pub build_cancelled : ℕ → Told
build_cancelled build =
    record {
      kind = codes "build_cancelled";
      fields = of_number (codes "build ") (codes "build") build ∷ [];
      tail = codes " to be cancelled";
    }

abbrev pub step_started : ℕ → ℕ → StepAt → Told
step_started build log step =
    record {
      kind = codes "step_started";
      fields =
          of_number (codes "build ") (codes "build") build
          ∷ of_number (codes " step started, log ") (codes "log") log
          ∷ of_member (codes "place") step.place
          ∷ of_name (codes ": ") (codes "step") step.name.now
          ∷ [];
      tail = codes "";
    }

abbrev pub step_refused : ℕ → StartRefusal → StepAt → Told
step_refused build why step =
    record {
      kind = codes "step_not_started";
      fields =
          of_number (codes "build ") (codes "build") build
          ∷ of_word (codes " step not started, ") (codes "cause") (start_text why)
          ∷ of_member (codes "place") step.place
          ∷ of_name (codes ": ") (codes "step") step.name.now
          ∷ [];
      tail = codes "";
    }

abbrev pub step_stopped : ℕ → ℕ → StepLimit → StepAt → Told
step_stopped build log limit step =
    record {
      kind = codes "step_stopped";
      fields =
          of_number (codes "build ") (codes "build") build
          ∷ of_word (codes " step stopped, ") (codes "cause") (limit_text limit)
          ∷ of_number (codes ", log ") (codes "log") log
          ∷ of_member (codes "place") step.place
          ∷ of_name (codes ": ") (codes "step") step.name.now
          ∷ [];
      tail = codes "";
    }

abbrev pub step_failed : ℕ → ℕ → List ℕ → List ℕ → StepAt → Told
step_failed build log worker said step =
    record {
      kind = codes "step_failed";
      fields =
          of_number (codes "build ") (codes "build") build
          ∷ of_name (codes " step failed on ") (codes "worker") worker
          ∷ of_name (codes ", ") (codes "cause") said
          ∷ of_number (codes ", log ") (codes "log") log
          ∷ of_member (codes "place") step.place
          ∷ of_name (codes ": ") (codes "step") step.name.now
          ∷ [];
      tail = codes "";
    }

abbrev pub step_ended : ℕ → ℕ → Results → StepAt → Told
step_ended build log result step =
    record {
      kind = codes "step_ended";
      fields =
          of_number (codes "build ") (codes "build") build
          ∷ of_word (codes " step ended ") (codes "result") (result_name result)
          ∷ of_number (codes ", log ") (codes "log") log
          ∷ of_member (codes "place") step.place
          ∷ of_name (codes ": ") (codes "step") step.name.now
          ∷ [];
      tail = codes "";
    }

abbrev pub program_started : List ℕ → Told
program_started worker =
    record {
      kind = codes "program_started";
      fields = of_name (codes "program of ") (codes "worker") worker ∷ [];
      tail = codes " started";
    }

abbrev pub program_failed : List ℕ → ProgramRefusal → Told
program_failed worker why =
    record {
      kind = codes "program_not_started";
      fields =
          of_name (codes "program of ") (codes "worker") worker
          ∷ of_word (codes " not started, ") (codes "cause") (program_text why)
          ∷ [];
      tail = codes "";
    }

abbrev pub program_ended : List ℕ → Told
program_ended worker =
    record {
      kind = codes "program_ended";
      fields = of_name (codes "program of ") (codes "worker") worker ∷ [];
      tail = codes " ended";
    }

-- what a remark says
abbrev pub told : Remark → Told
told (LoggedIn worker) = logged_in worker.now
told (Resumed worker) = resumed worker.now
told (Cut worker cause) = worker_cut worker.now cause
told (Lost worker cause) = worker_lost worker.now cause
told (Dismissed worker) = dismissed worker.now
told (ShutDown worker) = shut_down worker.now
told (Filled worker) = filled worker.now
told (LoginRefused name from why) = login_refused name.now from why
told (ConnectionRefused from why) = connection_refused from why
told (MoreRefused count) = more_refused count
told (NotTold count) = not_told count
told AcceptingPaused = paused
told (Counted workers builds steps) = counted workers builds steps
told (UnknownKey place key) = unknown_key place.now key.now
told (MisspeltKey place key near) = misspelt_key place.now key.now near.now
told InputUnknown = input_unknown
told (BuildMissing build) = build_missing build
told (BuildWaits build worker) = build_waits build worker.now
told (BuildUnstarted build) = build_unstarted build
told (BuildStarted build worker) = build_started build worker.now
told (BuildEnded build result) = build_ended build result
told (BuildCancelled build) = build_cancelled build
told (StepStarted build log step) = step_started build (log_number log) step
told (StepRefused build why step) = step_refused build why step
told (StepStopped build log limit step) = step_stopped build (log_number log) limit step
told (StepFailed build log worker said step) = step_failed build (log_number log) worker.now said.now step
told (StepEnded build log result step) = step_ended build (log_number log) result step
told (ProgramStarted worker) = program_started worker.now
told (ProgramFailed worker why) = program_failed worker.now why
told (ProgramEnded worker) = program_ended worker.now

-- the line that tells it, with its line end
abbrev pub remark_line : Remark → List ℕ
remark_line remark = line_of (told remark)

-- the object that tells it so many milliseconds after the master's start, with its line end
abbrev pub remark_object : ℕ → Remark → List ℕ
remark_object ms remark = object_of ms (told remark)
