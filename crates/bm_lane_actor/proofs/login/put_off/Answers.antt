use Rattle.bm_lane_actor.proofs.login.put_off.Goals as goal

pub returns : goal.returns
returns g c = (c.put_off-fault.new.self, c.put_off-fault.ensures.put_off)
