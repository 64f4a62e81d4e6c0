use Rattle.std.proofs.Common.{◌∙◌, sym, ap, refl, subst}
use Rattle.bm_latent.specs.declared.worker_input.WorkerInput.TheVariants as came
use Rattle.bm_master.specs.declared.master_flow.FlowInput.TheVariants as flow_input
use Rattle.bm_master.specs.Flow.{flow_after}
use Rattle.bm_master.specs.Held.{IsNotedIn}
use Rattle.bm_master.specs.Masters.{Hears, MasterView}
use Rattle.bm_master.proofs.master.Master.step.Goals as goal

pub returns-in-Worker : goal.returns-in-Worker
returns-in-Worker g c =
    let seen = c.self-in-Worker.view_is in
    rw c.in-Worker.is (record {
      heard = subst (λ (m : MasterView). Hears c.args.self.now m c.in-Worker.at (came.Happened c.in-Worker.event))
          (sym seen) c.hears.ensures.heard;
      flow = c.hears-in-Worker.ensures
          ∙ (ap (λ (m : MasterView). flow_after flow_input.Changed m.flow) seen ∙ c.hears.ensures.flow);
      tells = ap (λ (m : MasterView). m.tells) seen ∙ c.hears.ensures.tells;
    })

pub returns-in-ProgramStarted : goal.returns-in-ProgramStarted
returns-in-ProgramStarted g c =
    rw c.in-ProgramStarted.is (
      subst (λ (m : MasterView). Hears c.args.self.now m c.in-ProgramStarted.at came.Started)
          (sym c.self-in-ProgramStarted.view_is) c.hears-in-ProgramStarted.ensures.heard,
      refl,
    )

pub returns-then-hears : goal.returns-then-hears
returns-then-hears g c =
    rw c.in-ProgramRefused.is (
    subst (λ (m : MasterView). Hears c.args.self.now m c.in-ProgramRefused.at (came.Refused c.in-ProgramRefused.failure.may_pass))
    (sym c.self-in-ProgramRefused.view_is) c.hears-in-ProgramRefused.ensures.heard
    )

pub returns-after-self : goal.returns-after-self
returns-after-self g c =
    rw c.in-ProgramEnded.is (
      subst (λ (m : MasterView). Hears c.args.self.now m c.in-ProgramEnded.at came.Ended)
          (sym c.self-in-ProgramEnded.view_is) c.hears-in-ProgramEnded.ensures.heard,
      refl,
    )

pub returns-in-Commanded : goal.returns-in-Commanded
returns-in-Commanded g c =
    let seen = c.self-in-Commanded.view_is in
    rw c.in-Commanded.is (record {
      queue = c.note.ensures.queue ∙ ap (λ (m : MasterView). m.builds.queue) seen;
      noted = subst (λ (m : MasterView). IsNotedIn m.builds.held c.note.new.self.held
          (record { build = c.in-Commanded.build; command = c.in-Commanded.command })) seen c.note.ensures.noted;
      rest = ap (λ (m : MasterView). record m { builds = c.note.new.self }) seen;
    })
