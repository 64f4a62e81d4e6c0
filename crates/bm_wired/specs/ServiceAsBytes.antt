-- The states that runs from socket to socket reach are those that runs over bytes reach. So nothing
-- that the layers say is lost.
use Rattle.std.specs.Prelude.{◌≡◌, ℕ, Bool, List}
use Rattle.bm_work.specs.declared.sent.Sent.{Sent}
use Rattle.bm_wired.specs.Bytes.{OverBytes, GoesOver, bytes_apart}
use Rattle.bm_wired.specs.Cuts.{Step}
use Rattle.bm_wired.specs.Cuts as cut
use Rattle.bm_wired.specs.Service.{Service, Link, Apart, Greeted, Stands, Goes, opening}

-- the worker's link with its backlog
abbrev pub link_of : cut.Link → List Sent → Link
link_of cut.Apart backlog = Apart
link_of (cut.Greeted resumed) backlog = Greeted resumed
link_of cut.Stands backlog = Stands backlog

-- both ends and the bytes, without what waits and the queues
abbrev pub as_service : OverBytes → Service
as_service x =
    record {
      lane = x.ends.wired.lane;
      shown = x.ends.wired.shown;
      carried = x.ends.wired.carried;
      core = x.ends.wired.core;
      link = link_of x.ends.link x.ends.backlog;
      whole = x.ends.whole;
      heard = x.ends.heard;
      told = x.ends.told;
      up = x.up;
      down = x.down;
    }

abbrev pub ServiceIsOverBytes : Type 0
ServiceIsOverBytes =
    (id capacity : ℕ) (resumable : Bool) (y : Service)
    → Goes (opening id capacity resumable) y
    → (ss : List Step) × (z : OverBytes) × GoesOver (bytes_apart id capacity resumable) ss z
    × (as_service z ≡ y)

abbrev pub OverBytesIsService : Type 0
OverBytesIsService =
    (id capacity : ℕ) (resumable : Bool) (ss : List Step) (z : OverBytes)
    → GoesOver (bytes_apart id capacity resumable) ss z
    → Goes (opening id capacity resumable) (as_service z)
