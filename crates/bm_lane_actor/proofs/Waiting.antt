-- A build that waits looks again and again.
use Rattle.std.proofs.Common.{refl, ◌∙◌, ap, sym, ℕ}
use Rattle.bm_lane.proofs.Prefixes.{prefix_self, prefix_trans}
use Rattle.bm_runner.specs.declared.port.Polled.{Polled}
use Rattle.bm_lane_actor.specs.declared.step_machine.StepInput.TheVariants.{Seen}
use Rattle.bm_lane_actor.specs.declared.step_machine.StepActs.{StepActs}
use Rattle.bm_lane_actor.specs.Ports.{PortView, Looks, Orders, Waits}
use Rattle.bm_lane_actor.specs.StepMachine.{StepView}

pub waits_nothing : (p : PortView) → Waits p p
waits_nothing p = (refl, prefix_self p.viewer.seen, refl, refl, refl, refl)

pub waits_more : (old mid new : PortView) (k : ℕ) (said : Polled) → Waits old mid → Looks mid k said new → Waits old new
waits_more old mid new k said w l = (
  l.1.lane ∙ w.0,
  prefix_trans old.viewer.seen mid.viewer.seen new.viewer.seen w.1 l.1.seen,
  ap (λ (s : StepView). s.meter) l.3 ∙ w.2,
  ap (λ (s : StepView). s.none) l.3 ∙ w.3,
  l.4 ∙ w.4,
  l.5 ∙ w.5,
)

-- what is done about cancels changes neither the limits nor the log
pub waits_on : (old mid new : PortView) (said : Polled) (acts : StepActs) → Orders mid (Seen said) acts new → Waits old mid → Waits old new
waits_on old mid new said acts o w = (
  ap (λ (p : PortView). p.viewer.lane) o.2 ∙ w.0,
  (w.1.0, w.1.1 ∙ sym (ap (λ (p : PortView). p.viewer.seen) o.2)),
  ap (λ (p : PortView). p.step.meter) o.2 ∙ w.2,
  ap (λ (p : PortView). p.step.none) o.2 ∙ w.3,
  ap (λ (p : PortView). p.told) o.2 ∙ w.4,
  ap (λ (p : PortView). p.refused) o.2 ∙ w.5,
)
