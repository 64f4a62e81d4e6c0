-- What is done about a silent master.
use Rattle.std.specs.Prelude.{ℕ, nat_le, if◌then◌else◌, Option, Some, None}
use Rattle.bm_outbox.specs.declared.keepalive.Keepalive.{Keepalive}
use Rattle.bm_outbox.specs.declared.keepalive.Keepalive.TheVariants as keep

-- it is pinged once after 15 seconds of silence, and given up 45 seconds behind that
abbrev pub after_silence : ℕ → Option ℕ → Keepalive
after_silence seconds None = if nat_le 15 seconds then keep.Ping else keep.Wait
after_silence seconds (Some pinged) = if nat_le 45 pinged then keep.GiveUp else keep.Wait
