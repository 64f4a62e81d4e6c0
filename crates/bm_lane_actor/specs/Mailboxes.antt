-- What comes back of what is sent to a mailbox.
use Rattle.std.specs.Prelude.{◌≡◌, ℕ}
use Rattle.bm_link.specs.Link.{LinkState}
use Rattle.bm_lane_actor.specs.declared.lane_request.LaneRequest.{LaneRequest}
use Rattle.bm_lane_actor.specs.declared.lane_request.LaneRequest.TheVariants.{Attach}
use Rattle.bm_lane_actor.specs.declared.lane_request.LaneSignal.{LaneSignal}
use Rattle.bm_lane_actor.specs.declared.lane_request.LaneSignal.TheVariants as signal
use Rattle.bm_lane_actor.specs.declared.mailbox.HandOver.{HandOver}
use Rattle.bm_lane_actor.specs.declared.mailbox.HandOver.TheVariants.{Back, Left}

-- what comes back is what was sent
abbrev pub IsBack : {T : Type 0} → T → HandOver T → Type 0
IsBack message (Back other) = other ≡ message
IsBack message _ = Unit {0}

-- the link of a request that hands one over comes back; of no other request anything does
abbrev pub handed_back : {S : Type 0} → LaneRequest S → HandOver (LinkState S)
handed_back (Attach link) = Back link
handed_back _ = Left

-- the place of a signal's flag: no two have one place
abbrev pub place_of : LaneSignal → ℕ
place_of signal.ShutDown = 0
place_of signal.Ended = 1
place_of signal.Leave = 2
