-- The names of the keys of a configuration.
use Rattle.std.specs.Prelude.{ℕ, List, codes}
use Rattle.bm_config.specs.declared.keys.Key.{Key}
use Rattle.bm_config.specs.declared.keys.Key.TheVariants.{Listen, Web, Address, Capacity, Writers, Remarks, Worker, Name, Password, Slots, Latent, IdleTicks, ResumeTicks, Lock, Max, Build, Locks, Mode, Step, Command, HaltOnFailure, FlunkOnFailure, AlwaysRun, MaxBytes, TimeoutTicks, SilentTicks}

-- a key's name
abbrev pub name_of : Key → List ℕ
name_of Listen = codes "listen"
name_of Web = codes "web"
name_of Address = codes "address"
name_of Capacity = codes "capacity"
name_of Writers = codes "writers"
name_of Remarks = codes "remarks"
name_of Worker = codes "worker"
name_of Name = codes "name"
name_of Password = codes "password"
name_of Slots = codes "slots"
name_of Latent = codes "latent"
name_of IdleTicks = codes "idle_ticks"
name_of ResumeTicks = codes "resume_ticks"
name_of Lock = codes "lock"
name_of Max = codes "max"
name_of Build = codes "build"
name_of Locks = codes "locks"
name_of Mode = codes "mode"
name_of Step = codes "step"
name_of Command = codes "command"
name_of HaltOnFailure = codes "haltOnFailure"
name_of FlunkOnFailure = codes "flunkOnFailure"
name_of AlwaysRun = codes "alwaysRun"
name_of MaxBytes = codes "max_bytes"
name_of TimeoutTicks = codes "timeout_ticks"
name_of SilentTicks = codes "silent_ticks"
