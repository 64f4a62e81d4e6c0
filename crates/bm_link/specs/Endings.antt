-- What becomes of the lane of a link that failed.
use Rattle.std.specs.Prelude.{◌≡◌, ◌⊎◌, Bool, true, false, Some}
use Rattle.bm_session.specs.declared.event.Event.TheVariants.{Cut, Down}
use Rattle.bm_session.specs.declared.refusal.Refusal.{Refusal}
use Rattle.bm_session.specs.Trace.{refusal}
use Rattle.bm_lane.specs.Ends.{Heard}
use Rattle.bm_lane.specs.Hearing.{with_event, TraceRefuses, Refuses}
use Rattle.bm_lane.specs.declared.refusals.HearRefusal.{HearRefusal}
use Rattle.bm_lane.specs.declared.refusals.HearRefusal.TheVariants.{Busy}
use Rattle.bm_link.specs.declared.ending.Ended.{Ended}
use Rattle.bm_link.specs.declared.ending.Ended.TheVariants as ended
use Rattle.bm_link.specs.declared.ending.Stage.{Stage}
use Rattle.bm_link.specs.declared.ending.Stage.TheVariants as stage

-- how far the link has come then: while the Down waits it is still to be taken
abbrev pub stage_after : Ended → Stage
stage_after ended.Cut = stage.Failed
stage_after ended.Down = stage.Failed
stage_after ended.Waits = stage.Falling false

-- the lane is neither up nor cut
abbrev pub IsDown : Heard → Type 0
IsDown lane = (why : Refusal) × (refusal lane.trace Down ≡ Some why)

-- the lane takes a Down, or was down; or the Down waits, since the lane is busy
abbrev pub Falls : Heard → Heard → Ended → Type 0
Falls lane lane2 ended.Cut = ⊥
Falls lane lane2 ended.Down = (lane2 ≡ with_event lane Down) ⊎ ((lane2 ≡ lane) × IsDown lane)
Falls lane lane2 ended.Waits = (lane2 ≡ lane) × Refuses lane Down Busy

-- a Cut may not be, or its trace forbids it
abbrev pub NoCut : Bool → Heard → Type 0
NoCut may_cut lane = (may_cut ≡ false) ⊎ ((why : HearRefusal) × TraceRefuses lane Cut why)

-- the lane was cut, where it may be; where it may not, or its trace forbids it, it falls
abbrev pub Ends : Bool → Heard → Heard → Ended → Type 0
Ends may_cut lane lane2 e =
    ((may_cut ≡ true) × (e ≡ ended.Cut) × (lane2 ≡ with_event lane Cut))
    ⊎ (NoCut may_cut lane × Falls lane lane2 e)

-- that, and how far the link has come
abbrev pub EndsAt : Bool → Heard → Heard → Stage → Type 0
EndsAt may_cut lane lane2 s = (e : Ended) × Ends may_cut lane lane2 e × (s ≡ stage_after e)

-- the lane was not cut, since it may not be or its trace forbids that; it falls, and how far the
-- link has come
abbrev pub FallsAt : Bool → Heard → Heard → Stage → Type 0
FallsAt may_cut lane lane2 s =
    (e : Ended) × NoCut may_cut lane × Falls lane lane2 e × (s ≡ stage_after e)
