-- What becomes of a login at a lane whose worker may be connected already.
use Rattle.std.specs.Prelude.{Bool, true, false}
use Rattle.bm_lane_actor.specs.declared.login_fates.LoginFate.{LoginFate}
use Rattle.bm_lane_actor.specs.declared.login_fates.LoginFate.TheVariants as fate
use Rattle.bm_lane_actor.specs.declared.login_fates.WaitingFate.{WaitingFate}
use Rattle.bm_lane_actor.specs.declared.login_fates.WaitingFate.TheVariants as waiting

-- The lane is up; another login waits; the login names the session of the lane. Where the lane
-- isn't up it is admitted. Where nobody waits it does. Only the lane's own worker takes the place
-- of one that waits; whoever else comes then is told that the lane is up.
abbrev pub login_fate : Bool → Bool → Bool → LoginFate
login_fate false waits own = fate.Admit
login_fate true false own = fate.Wait
login_fate true true true = fate.TakePlace
login_fate true true false = fate.Admit

-- It is still awaited whether the first connection's worker lives; the peer of the login has left.
abbrev pub waiting_fate : Bool → Bool → WaitingFate
waiting_fate awaited true = waiting.Drop
waiting_fate true false = waiting.Wait
waiting_fate false false = waiting.Admit
