use Rattle.std.proofs.Common.{arith, sym}
use Rattle.pdp_cpu.proofs.CalmTurns.{calm_none}
use Rattle.pdp_replay.proofs.ask.Watches.{few_out}
use Rattle.pdp_replay.proofs.ask.watch.pass_output.Goals as goal

pub returns-then-count_out-number-clause-turns : goal.returns-then-count_out-number-clause-turns
returns-then-count_out-number-clause-turns c = sym (calm_none c.args.machine.now)

pub returns-clause-none : goal.returns-clause-none
returns-clause-none c = λ some.
    let ran = c.run_calmly.ensures in
    few_out c.args.kind c.args.number c.run_calmly.result c.args.machine.now c.run_calmly.new.self c.count_out.result ran.turns ran.text ran.punched
    c.count_out.ensures (omega (arith, c.if-count_out-number.false))
