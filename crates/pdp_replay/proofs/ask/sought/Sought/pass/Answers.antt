use Rattle.std.proofs.Common.{ap, subst, sym, ◌∙◌}
use Rattle.pdp_cpu.proofs.CalmTurns.{calm_none}
use Rattle.pdp_cpu.specs.Turns.CalmTurns.{after_calm_turns}
use Rattle.pdp_replay.specs.Ask.SoughtTurns.{NoneIsSought}
use Rattle.pdp_replay.proofs.ask.SoughtTurns.{none_met, none_there}
use Rattle.pdp_replay.proofs.ask.sought.Sought.pass.Goals as goal

pub returns-in-Instruction-clause-none : goal.returns-in-Instruction-clause-none
returns-in-Instruction-clause-none c =
    subst (λ sought. NoneIsSought sought c.run_calmly_before.result c.args.machine.now) (sym c.in-Instruction.is)
    (none_there c.in-Instruction.address c.in-Instruction.mode c.run_calmly_before.result c.args.machine.now c.run_calmly_before.ensures.none)

pub returns-in-Where-clause-none : goal.returns-in-Where-clause-none
returns-in-Where-clause-none c =
    subst (λ sought. NoneIsSought sought c.pass_unmet.result c.args.machine.now) (sym c.in-Where.is)
    (none_met c.in-Where.conditions c.pass_unmet.result c.args.machine.now c.pass_unmet.ensures.none)

pub returns-in-Trap-clause-turns : goal.returns-in-Trap-clause-turns
returns-in-Trap-clause-turns c =
    sym (ap (λ n. after_calm_turns n c.args.machine.now) c.pass_none.ensures.none ∙ calm_none c.args.machine.now)
