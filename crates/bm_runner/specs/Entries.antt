-- What a port keeps of the steps that it started.
use Rattle.std.specs.Prelude.{ℕ, List}
use Rattle.bm_runner.specs.declared.port.Told.{Told}

-- the entries, oldest first, and how many more of them take no memory
pub record Kept : Type 0 where
  pub told : List Told
  pub room : ℕ
