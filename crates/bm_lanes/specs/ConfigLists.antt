-- What lanes, builds and logins are given, by the configuration.
use Rattle.std.specs.Prelude.{ℕ, List, map, ◌+◌}
use Rattle.bm_config.specs.declared.config.LockConfig.{LockConfig}
use Rattle.bm_config.specs.declared.config.WorkerConfig.{WorkerConfig}
use Rattle.bm_link.specs.declared.user.User.{User}

-- how many builds each worker runs at a time
abbrev pub slots : List WorkerConfig → List ℕ
slots workers = map (λ w. w.slots) workers

-- how many viewers each worker's lane has: one for each of its slots, and one for the web
abbrev pub viewer_counts : List WorkerConfig → List ℕ
viewer_counts workers = map (λ w. w.slots + 1) workers

-- how many items each lane's queue takes
abbrev pub capacities : ℕ → List WorkerConfig → List ℕ
capacities capacity workers = map (λ w. capacity) workers

-- how many builds may hold each lock
abbrev pub maxima : List LockConfig → List ℕ
maxima locks = map (λ l. l.max) locks

-- who may log in: each worker under its name, with its password
abbrev pub user : WorkerConfig → User
user w = record { name = w.name; password = w.password }

abbrev pub users : List WorkerConfig → List User
users workers = map user workers
