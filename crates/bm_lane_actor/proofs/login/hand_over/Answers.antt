use Rattle.bm_lane_actor.proofs.login.hand_over.Goals as goal

pub returns-in-Taken-clause-login : goal.returns-in-Taken-clause-login
returns-in-Taken-clause-login g c = (c.args.worker.link, c.requires.login)
