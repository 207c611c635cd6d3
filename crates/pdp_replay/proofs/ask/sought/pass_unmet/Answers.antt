use Rattle.std.proofs.Common.{sym, ◌∙◌}
use Rattle.pdp_replay.proofs.ask.TurnConditions.{none_unmet}
use Rattle.pdp_replay.proofs.ask.sought.pass_unmet.Goals as goal

pub returns-in-Some-clause-none : goal.returns-in-Some-clause-none
returns-in-Some-clause-none c =
    none_unmet c.args.conditions c.in-Some.address c.run_calmly_before.result c.args.machine.now
    (sym c.address_of.ensures ∙ c.in-Some.is) c.run_calmly_before.ensures.none
