use Rattle.std.proofs.Common.{ap, sym}
use Rattle.pdp_cpu.specs.Handbook.MachineState.{MachineWithTexts}
use Rattle.pdp_cpu.proofs.TurnRuns.{turn_seen}
use Rattle.pdp_cpu.proofs.machine.Machine.turn_by.Goals as goal

pub returns-clause-runs : goal.returns-clause-runs
returns-clause-runs g c =
    let none = ap (λ (v : MachineWithTexts). v.state.world.bus.first_touches) (sym c.self.view_is) in
    turn_seen c.args.events.now c.args.self.now c.turn_by_whole.new.self _ _ none c.turn_by_whole.ensures.runs
