use Rattle.bm_store.proofs.Places.{IsPlacing-pop}
use Rattle.bm_store.proofs.named_log.NamedLog.pop.Goals as goal

pub invariant_of-self : goal.invariant_of-self
invariant_of-self c = IsPlacing-pop c.self.inside.blocks.items c.pop.new.self.items c.in-Some.last c.self.inside.lines c.self.invariant c.in-Some.ensures.items

pub invariant_of-self-in-Some-2 : goal.invariant_of-self-in-Some-2
invariant_of-self-in-Some-2 c = IsPlacing-pop c.self.inside.blocks.items c.pop.new.self.items c.in-Some.last c.self.inside.lines c.self.invariant c.in-Some.ensures.items

pub invariant_of-self-in-Some-3 : goal.invariant_of-self-in-Some-3
invariant_of-self-in-Some-3 c = IsPlacing-pop c.self.inside.blocks.items c.pop.new.self.items c.in-Some.last c.self.inside.lines c.self.invariant c.in-Some.ensures.items
