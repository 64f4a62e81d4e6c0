use Rattle.std.proofs.Common.{rules, inr}
use Rattle.bm_lane_actor.proofs.port.LanePortPort.poll.Goals as goal

pub returns-in-Ended-clause-answer : goal.returns-in-Ended-clause-answer
returns-in-Ended-clause-answer g c = inr (search rules, (c.wait.new.self, c.see-acts.new.self, c.see-acts.result, c.wait.ensures, c.see-acts.ensures, search rules, search rules, search rules))

pub returns-in_default : goal.returns-in_default
returns-in_default g c = record {
  told = search rules;
  refused = search rules;
  none = search rules;
  answer = inr (search rules, (c.wait.new.self, c.see-acts.new.self, c.see-acts.result, c.wait.ensures, c.see-acts.ensures, search rules, search rules, search rules));
}
