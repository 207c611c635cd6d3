use Rattle.std.proofs.Common.{◌∙◌, ap, refl}
use Rattle.pdp_cpu.specs.Handbook.MachineState.{MachineWithTexts, machine_world}
use Rattle.pdp_cpu.specs.Handbook.Turn.{act_end, clear_latch}
use Rattle.pdp_cpu.specs.declared.due.Due.TheVariants as due
use Rattle.pdp_cpu.proofs.Carried.{act_is}
use Rattle.pdp_cpu.proofs.machine.Machine.act.Goals as goal

pub returns-then-nothing_is_pending-clause-world : goal.returns-then-nothing_is_pending-clause-world
returns-then-nothing_is_pending-clause-world g c =
    let s = c.self.inside in
    let new = c.instruct.new in
    act_is s.computer.processor new.processor s.computer.bus new.bus due.Instruction
    (c.nothing_is_pending.ensures c.if-nothing_is_pending.true)
    (c.instruct.ensures.follows clear_latch)
    ∙ ap (λ (m : MachineWithTexts). act_end (machine_world m)) c.self.view_is

pub returns-else-nothing_is_pending-clause-world : goal.returns-else-nothing_is_pending-clause-world
returns-else-nothing_is_pending-clause-world g c =
    let s = c.self.inside in
    let new = c.take_what_is_due.new in
    act_is s.computer.processor new.processor s.computer.bus new.bus _ refl
    (c.take_what_is_due.ensures.follows clear_latch)
    ∙ ap (λ (m : MachineWithTexts). act_end (machine_world m)) c.self.view_is
