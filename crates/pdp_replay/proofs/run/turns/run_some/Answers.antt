use Rattle.std.proofs.Common.{◌∙◌, ap, arith, sym}
use Rattle.pdp_cpu.specs.Handbook.MachineState.{MachineState}
use Rattle.pdp_replay.proofs.run.CalmWays.{ran_calmly}
use Rattle.pdp_replay.proofs.run.Ways.{way_on_with_room, way_stays}
use Rattle.pdp_replay.proofs.run.turns.run_some.Goals as goal

pub returns-then-run_calmly-gt0-clause-way : goal.returns-then-run_calmly-gt0-clause-way
returns-then-run_calmly-gt0-clause-way c = λ p known quiet way.
    let ran = c.run_calmly in
    ran_calmly p known c.args.to ran.result c.args.machine.now ran.new.self ran.ensures.turns
    c.requires.forward ran.ensures.turn ran.ensures.most quiet way

pub returns-in_err-ready-clause-way : goal.returns-in_err-ready-clause-way
returns-in_err-ready-clause-way c = λ p known quiet way.
    let ran = c.run_calmly in
    let ready = c.ready in
    way_stays p known ran.new.self ready.new.self
    (ran_calmly p known c.args.to ran.result c.args.machine.now ran.new.self ran.ensures.turns
    c.requires.forward ran.ensures.turn ran.ensures.most quiet way)
    ready.ensures.same ready.ensures.same_text ready.ensures.same_punched ready.ensures.same_first_touches

pub returns-clause-way : goal.returns-clause-way
returns-clause-way c = λ p known quiet way.
    let ran = c.run_calmly in
    let ready = c.ready in
    let same = ap (λ (s : MachineState). s.turn) ready.ensures.same ∙ ran.ensures.turn in
    let none = c.if-run_calmly-gt0.false in
    let below = c.requires.forward in
    way_on_with_room p known ran.new.self ready.new.self c.turn.new.self _
    (ran_calmly p known c.args.to ran.result c.args.machine.now ran.new.self ran.ensures.turns
    c.requires.forward ran.ensures.turn ran.ensures.most quiet way)
    ready.ensures.same ready.ensures.same_text ready.ensures.same_punched ready.ensures.same_first_touches
    (sym (quiet ready.new.self.state.turn (omega (arith, same)) (omega (arith, same, none, below))))
    c.turn.ensures.runs.turn c.turn.ensures.runs.kept_text c.turn.ensures.runs.kept_punched c.turn.ensures.runs.first_touches
