-- The connections that have not logged in, in a table.
use Rattle.std.specs.Prelude.{◌≡◌, ℕ, ◌==◌, Bool, List, slice_index_or, swap_remove, Option, Some, None}
use Rattle.std.specs.Arc.{arc_value}
use Rattle.std.specs.declared.sync.Arc.{Arc}
use Rattle.std.specs.declared.alloc.Global.{Global}
use Rattle.bm_lane_actor.specs.declared.pending_login.PendingLogin.{PendingLogin}
use Rattle.bm_lane_actor.specs.LoginLimits.{CountView, left}

-- it is the connection of this number
abbrev pub has_number : ℕ → Arc PendingLogin Global → Bool
has_number number login = (arc_value login).number == number

-- The connection at this place leaves, and the last one takes its place. It is counted no more,
-- whether it was put out or not. Where there is none nothing changes.
abbrev pub LeavesAt : Option ℕ → List (Arc PendingLogin Global) → CountView
    → List (Arc PendingLogin Global) → CountView → Type 0
LeavesAt None old count new after = (new ≡ old) × (after ≡ count)
LeavesAt (Some place) old count new after =
    (gone : Arc PendingLogin Global) × (was_put_out : Bool)
    × (gone ≡ slice_index_or old place gone) × (new ≡ swap_remove old place gone)
    × (after ≡ left was_put_out count)
