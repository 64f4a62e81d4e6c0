-- A run from socket to socket in which a cut falls inside a frame. A line is sent twice and seen
-- once, and all premises of the law hold at its end. So the law speaks of something.
use Rattle.std.specs.Prelude.{◌≡◌, ℕ, true, [], ◌∷◌, length}
use Rattle.bm_lines.specs.Names.{stdio}
use Rattle.bm_replay.specs.Schedule.{was_started}
use Rattle.bm_session.specs.Trace.{log, visible}
use Rattle.bm_work.specs.Core.{unanswered_requests}
use Rattle.bm_work.specs.Stream.{said, sent}
use Rattle.bm_wired.specs.Example.{hello, report}
use Rattle.bm_wired.specs.Service.{Service, Goes, opening}

pub record ShowsOnceFromSockets (start : Service) : Type 0 where
  -- one byte of the answer's frame is under way, the line is logged, and the worker doesn't know
  pub cut : Service
  pub cutting : Goes start cut
  pub part : length cut.down ≡ 1
  pub logged : log cut.lane.trace 0 stdio ≡ hello ∷ []
  pub unanswered : unanswered_requests cut.core ≡ sent 0 report ∷ []
  -- what the law needs to say that viewers see all
  pub end : Service
  pub going_on : Goes cut end
  pub heard : end.heard ≡ true
  pub started : was_started end.lane.trace 0 ≡ true
  pub answered : unanswered_requests end.core ≡ []
  pub shown : end.shown ≡ length end.lane.put
  -- they see the line once, as was said
  pub once : log (visible end.lane.trace end.shown) 0 stdio ≡ hello ∷ []
  pub said : said end.told 0 ≡ hello ∷ []

abbrev pub ServiceShowsLines : Type 0
ServiceShowsLines = (id capacity : ℕ) → ShowsOnceFromSockets (opening id capacity true)
