-- How a process that is to end is ended.
use Rattle.std.specs.Prelude.{ℕ, ◌+◌, ◌-◌, ◌^◌, ◌==◌, min, nat_le, if◌then◌else◌, Option, Some, None}
use Rattle.bm_latent.specs.declared.deadline.EndAct.{EndAct}
use Rattle.bm_latent.specs.declared.deadline.EndAct.TheVariants as act

-- the ticks count from the first time on
abbrev pub begun : Option ℕ → Option ℕ
begun (Some ticks) = Some ticks
begun None = Some 0

-- a tick more, up to 2^32-1, where they count
abbrev pub after_tick : Option ℕ → Option ℕ
after_tick (Some ticks) = Some (min (ticks + 1) (2 ^ 32 - 1))
after_tick None = None

-- it is asked after 200 ticks, and killed from the thousandth on
abbrev pub act_at : Option ℕ → EndAct
act_at (Some ticks) =
    if nat_le 1000 ticks then act.Kill else (if ticks == 200 then act.Ask else act.None)
act_at None = act.None
