use Rattle.std.proofs.Common.{◌<◌, length, IfSome}
use Rattle.bm_lane_actor.proofs.login_limit.longest_silence.Given as goal

abbrev pub invariant-loop-place : goal.invariant-loop-place
invariant-loop-place l = IfSome l.longest.place (λ place. place < length l.logins)
