use Rattle.std.proofs.Common.{◌∙◌, ap, subst}
use Rattle.pdp_cpu.specs.Handbook.MachineState.{MachineWithTexts, machine_world}
use Rattle.pdp_cpu.specs.Handbook.Turn.{act_end}
use Rattle.pdp_cpu.proofs.machine.Machine.act_by.Goals as goal

pub returns-clause-world : goal.returns-clause-world
returns-clause-world g c =
    c.run_act.ensures.act ∙ ap (λ (m : MachineWithTexts). act_end (machine_world m)) c.self.view_is

pub returns-clause-has_run : goal.returns-clause-has_run
returns-clause-has_run g c =
    subst (λ (m : MachineWithTexts). g.A.RunsAct.HasRun c.run_act.new.self (machine_world m)) c.self.view_is
    c.run_act.ensures.has_run
