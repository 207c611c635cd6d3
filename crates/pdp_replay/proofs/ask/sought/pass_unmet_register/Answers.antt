use Rattle.std.proofs.Common.{ap, sym, ◌∙◌}
use Rattle.pdp_cpu.proofs.CalmTurns.{calm_none}
use Rattle.pdp_cpu.specs.Turns.CalmTurns.{after_calm_turns}
use Rattle.pdp_replay.proofs.ask.RegisterTests.{none_unmet_while_tested}
use Rattle.pdp_replay.proofs.ask.sought.pass_unmet_register.Goals as goal

pub returns-in-None-clause-turns : goal.returns-in-None-clause-turns
returns-in-None-clause-turns c =
    sym (ap (λ n. after_calm_turns n c.args.machine.now) c.pass_none.ensures.none ∙ calm_none c.args.machine.now)

pub returns-in-Some-clause-none : goal.returns-in-Some-clause-none
returns-in-Some-clause-none c =
    none_unmet_while_tested c.args.conditions c.in-Some.test c.run_calmly_while.result c.args.machine.now
    (sym c.unmet_register.ensures ∙ c.in-Some.is) c.run_calmly_while.ensures.passes
