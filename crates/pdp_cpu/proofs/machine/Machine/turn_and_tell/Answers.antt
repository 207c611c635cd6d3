use Rattle.std.proofs.Common.{◌∙◌, ap, sym}
use Rattle.pdp_cpu.specs.Handbook.MachineState.{MachineWithTexts}
use Rattle.pdp_cpu.proofs.Carried.{turn_carried}
use Rattle.pdp_cpu.proofs.TurnRuns.{turn_seen}
use Rattle.pdp_cpu.proofs.machine.Machine.turn_and_tell.Goals as goal

pub returns-clause-act : goal.returns-clause-act
returns-clause-act g c =
    let m = c.args.self.now in
    c.tell_whole.ensures.act ∙ (turn_carried m.state.turn c.args.events.now m.state.world m.first_touches).act

pub returns-clause-runs : goal.returns-clause-runs
returns-clause-runs g c =
    let none = ap (λ (v : MachineWithTexts). v.state.world.bus.first_touches) (sym c.self.view_is) in
    turn_seen c.args.events.now c.args.self.now c.tell_whole.new.self _ _ none c.tell_whole.ensures.runs

pub returns-clause-trap : goal.returns-clause-trap
returns-clause-trap g c =
    let m = c.args.self.now in
    c.tell_whole.ensures.trap ∙ (turn_carried m.state.turn c.args.events.now m.state.world m.first_touches).trap
