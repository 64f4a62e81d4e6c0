-- The configuration that a table makes, or the first key at fault, in the order of the keys below
-- and of the arrays.
use Rattle.std.specs.Prelude.{◌≡◌, ℕ, nat_le, ◌&&◌, ◌||◌, ◌==◌, Bool, true, false, if◌then◌else◌, List, length, sum_by, position, bytes_eq, codes, string_bytes, Option, Some, None, is_some, option_and_then, option_map, Result, Ok, Err}
use Rattle.std.specs.List.{list_any, list_all, filter_map}
use Rattle.std.specs.declared.net.socket_addr.SocketAddr.{SocketAddr}
use Rattle.toml.specs.Data.{Data, Members, as_str}
use Rattle.toml.specs.Parse.{parse_document}
use Rattle.bm_board.specs.declared.plan.Mode.{Mode}
use Rattle.bm_board.specs.declared.plan.Mode.TheVariants.{Counting, Exclusive}
use Rattle.bm_board.specs.declared.plan.LockUse.{LockUse}
use Rattle.bm_board.specs.declared.plan.StepPlan.{StepPlan}
use Rattle.bm_board.specs.declared.plan.Build.{Build}
use Rattle.bm_config.specs.declared.keys.Key.{Key}
use Rattle.bm_config.specs.declared.keys.Key.TheVariants as keys
use Rattle.bm_config.specs.declared.fault.ConfigFault.{ConfigFault}
use Rattle.bm_config.specs.declared.fault.ConfigFault.TheVariants as faults
use Rattle.bm_config.specs.declared.fault.ConfigMistake.{ConfigMistake}
use Rattle.bm_config.specs.declared.fault.ConfigMistake.TheVariants as mistakes
use Rattle.bm_config.specs.declared.config.RemarkForm.{RemarkForm}
use Rattle.bm_config.specs.declared.config.RemarkForm.TheVariants as forms
use Rattle.bm_config.specs.declared.place.Spot.{Spot}
use Rattle.bm_config.specs.Keys.{name_of}
use Rattle.bm_config.specs.Places.{alone}
use Rattle.bm_config.specs.declared.config.Config.{Config}
use Rattle.bm_config.specs.declared.config.WorkerConfig.{WorkerConfig}
use Rattle.bm_config.specs.declared.config.LockConfig.{LockConfig}
use Rattle.bm_config.specs.Fields.{find, or_fault, meant_or, text_at, number_at, flag_at, text_in, IsAddressOf}
use Rattle.bm_config.specs.Rows.{and_then, table_of, elements, tables_at, tables_or_none, few_tables, rows}

-- the most that a number of ticks, and a lock's maximum, may be
abbrev pub most : ℕ
most = 0x7fff_ffff

-- the text at a key, where it is one that the key takes
abbrev pub named : {A : Type 0} → Key → (List ℕ → Option A) → Members → Result A Key
named key meaning members = and_then (text_at key members) (λ text. or_fault key (meaning text))

-- A worker's name: not empty, and not that of one before it. A password, a lock's name and a step's
-- name may be empty.
abbrev pub new_worker : List WorkerConfig → List ℕ → Option (List ℕ)
new_worker before name =
    if length name == 0 || list_any (λ w. bytes_eq w.name name) before then None else Some name

-- a lock's name: not that of one before it
abbrev pub new_lock : List LockConfig → List ℕ → Option (List ℕ)
new_lock before name = if list_any (λ l. bytes_eq l.name name) before then None else Some name

abbrev pub is_text : Data → Bool
is_text d = is_some (as_str d)

-- the elements of an array of texts, at least one
abbrev pub text_array : Data → Option (List Data)
text_array d =
    option_and_then (λ ds. if nat_le 1 (length ds) && list_all is_text ds then Some ds else None)
    (elements d)

-- the texts among the elements
abbrev pub texts_of : List Data → List (List ℕ)
texts_of ds = filter_map as_str ds

-- The program that starts a worker. `latent = []` is at fault, since there is no program to start.
abbrev pub program : Data → Option (Option (List (List ℕ)))
program d = option_map (λ ds. Some (texts_of ds)) (text_array d)

abbrev pub program_at : Members → Result (Option (List (List ℕ))) Key
program_at m = meant_or keys.Latent None program (find keys.Latent m)

-- the words of a step: at most 10,000, of at most 900,000 bytes together
abbrev pub command : Data → Option (List (List ℕ))
command d =
    option_and_then (λ ds. if nat_le (length ds) 10000
    && nat_le (sum_by length (texts_of ds)) 900000
    then Some (texts_of ds) else None) (text_array d)

abbrev pub command_at : Members → Result (List (List ℕ)) Key
command_at m = or_fault keys.Command (option_and_then command (find keys.Command m))

-- a worker after those before it
abbrev pub worker_row : List WorkerConfig → Data → Result WorkerConfig Spot
worker_row before d =
    and_then (alone (table_of keys.Worker d)) (λ m.
    and_then (alone (named keys.Name (new_worker before) m)) (λ name.
    and_then (alone (text_at keys.Password m)) (λ password.
    and_then (alone (number_at 1 4 1 keys.Slots m)) (λ slots.
    and_then (alone (program_at m)) (λ latent.
    and_then (alone (number_at 1 most 100 keys.IdleTicks m)) (λ idle.
    and_then (alone (number_at 0 most 0 keys.ResumeTicks m)) (λ resume.
    Ok (record {
      name = name;
      password = password;
      slots = slots;
      latent = latent;
      idle_ticks = idle;
      resume_ticks = resume;
    }))))))))

-- a lock after those before it
abbrev pub lock_row : List LockConfig → Data → Result LockConfig Spot
lock_row before d =
    and_then (alone (table_of keys.Lock d)) (λ m.
    and_then (alone (named keys.Name (new_lock before) m)) (λ name.
    and_then (alone (number_at 1 most 1 keys.Max m)) (λ max.
    Ok (record { name = name; max = max }))))

-- the place of the lock that has the name and that no use before names
abbrev pub free_lock : List LockConfig → List LockUse → List ℕ → Option ℕ
free_lock locks before name =
    option_and_then (λ place. if list_any (λ u. u.lock == place) before then None else Some place)
    (position (λ l. bytes_eq l.name name) locks)

-- a mode by its name
abbrev pub mode_of : List ℕ → Option Mode
mode_of text =
    if bytes_eq text (codes "counting") then Some Counting
    else (if bytes_eq text (codes "exclusive") then Some Exclusive else None)

-- the place of the worker that has the name
abbrev pub worker_named : List WorkerConfig → List ℕ → Option ℕ
worker_named workers name = position (λ w. bytes_eq w.name name) workers

-- a lock that a build holds, after those before it
abbrev pub use_row : List LockConfig → List LockUse → Data → Result LockUse Spot
use_row locks before d =
    and_then (alone (table_of keys.Locks d)) (λ m.
    and_then (alone (named keys.Name (free_lock locks before) m)) (λ lock.
    and_then (alone (named keys.Mode mode_of m)) (λ mode.
    Ok (record { lock = lock; mode = mode }))))

-- a step of a build
abbrev pub step_row : List StepPlan → Data → Result StepPlan Spot
step_row before d =
    and_then (alone (table_of keys.Step d)) (λ m.
    and_then (alone (text_at keys.Name m)) (λ name.
    and_then (alone (command_at m)) (λ argv.
    and_then (alone (flag_at false keys.HaltOnFailure m)) (λ halt.
    and_then (alone (flag_at true keys.FlunkOnFailure m)) (λ flunk.
    and_then (alone (flag_at false keys.AlwaysRun m)) (λ always.
    and_then (alone (number_at 0 0xffff_ffff 0x4000_0000 keys.MaxBytes m)) (λ bytes.
    and_then (alone (number_at 0 most 0 keys.TimeoutTicks m)) (λ ticks.
    and_then (alone (number_at 0 most 0 keys.SilentTicks m)) (λ silent.
    Ok (record {
      name = name;
      argv = argv;
      halt_on_failure = halt;
      flunk_on_failure = flunk;
      always_run = always;
      max_bytes = bytes;
      timeout_ticks = ticks;
      silent_ticks = silent;
    }))))))))))

-- the locks that a build holds, and its steps
abbrev pub uses_of : List LockConfig → Members → Result (List LockUse) Spot
uses_of locks m = and_then (alone (tables_or_none keys.Locks m)) (rows keys.Locks (use_row locks))

abbrev pub steps_of : Members → Result (List StepPlan) Spot
steps_of m = and_then (alone (tables_or_none keys.Step m)) (rows keys.Step step_row)

-- a build over the workers and the locks
abbrev pub build_row : List WorkerConfig → List LockConfig → List Build → Data → Result Build Spot
build_row workers locks before d =
    and_then (alone (table_of keys.Build d)) (λ m.
    and_then (alone (named keys.Worker (worker_named workers) m)) (λ worker.
    and_then (uses_of locks m) (λ uses.
    and_then (steps_of m) (λ steps.
    Ok (record { worker = worker; locks = uses; steps = steps })))))

-- the workers, the locks and the builds of a table
abbrev pub workers_of : Members → Result (List WorkerConfig) Spot
workers_of m = and_then (alone (tables_at 1 64 keys.Worker m)) (rows keys.Worker worker_row)

abbrev pub locks_of : Members → Result (List LockConfig) Spot
locks_of m = and_then (alone (tables_or_none keys.Lock m)) (rows keys.Lock lock_row)

abbrev pub builds_of : List WorkerConfig → List LockConfig → Members → Result (List Build) Spot
builds_of workers locks m =
    and_then (alone (few_tables 10000 keys.Build m)) (rows keys.Build (build_row workers locks))

-- a text that isn't empty
abbrev pub some_text : Data → Option (Option (List ℕ))
some_text d =
    option_and_then (λ text. if length text == 0 then None else Some (Some text)) (as_str d)

-- the address that programs of workers are given, where the table has one
abbrev pub told_address : Members → Result (Option (List ℕ)) Key
told_address m = meant_or keys.Address None some_text (find keys.Address m)

-- a form of remarks by its name
abbrev pub form_of : List ℕ → Option RemarkForm
form_of text =
    if bytes_eq text (codes "text") then Some forms.Text
    else (if bytes_eq text (codes "json") then Some forms.Json else None)

-- the form of remarks, `text` where it is missing
abbrev pub form_at : Members → Result RemarkForm Key
form_at m =
    meant_or keys.Remarks forms.Text (λ d. option_and_then form_of (as_str d)) (find keys.Remarks m)

-- the configuration of a table, with the addresses that its texts write
abbrev pub config_of : Option SocketAddr → Option SocketAddr → Members → Result Config Spot
config_of listen web m =
    and_then (alone (or_fault keys.Listen listen)) (λ listen.
    and_then (alone (or_fault keys.Web web)) (λ web.
    and_then (alone (told_address m)) (λ address.
    and_then (alone (number_at 1 65536 64 keys.Capacity m)) (λ capacity.
    and_then (alone (number_at 1 64 2 keys.Writers m)) (λ writers.
    and_then (alone (form_at m)) (λ form.
    and_then (workers_of m) (λ workers.
    and_then (locks_of m) (λ locks.
    and_then (builds_of workers locks m) (λ builds.
    Ok (record {
      listen = listen;
      web = web;
      address = address;
      capacity = capacity;
      writers = writers;
      remarks = form;
      workers = workers;
      locks = locks;
      builds = builds;
    }))))))))))

-- a text says this: it is TOML, and its table makes the configuration or has the key at fault
pub record Says (text : List ℕ) (said : Result Config Spot) : Type 0 where
  pub table : Members
  pub listen : Option SocketAddr
  pub web : Option SocketAddr
  pub parsed : parse_document text ≡ Some table
  pub listens : IsAddressOf (text_in keys.Listen table) listen
  pub serves : IsAddressOf (text_in keys.Web table) web
  pub says : config_of listen web table ≡ said

-- the fault is the text's: no TOML, or the first key at fault; of want of memory nothing is said
abbrev pub IsFaultOf : List ℕ → ConfigFault → Type 0
IsFaultOf text faults.Syntax = parse_document text ≡ None
IsFaultOf text (faults.Key told) =
    (spot : Spot) × ((string_bytes told ≡ name_of spot.key) × Says text (Err spot))
IsFaultOf text faults.Mem = Unit {0}

-- the same with the place
abbrev pub IsMistakeOf : List ℕ → ConfigMistake → Type 0
IsMistakeOf text (mistakes.Syntax said) = parse_document text ≡ None
IsMistakeOf text (mistakes.At spot) = Says text (Err spot)
IsMistakeOf text mistakes.Mem = Unit {0}
