use Rattle.std.proofs.Common.{ap, sym, ◌∙◌, arith}
use Rattle.pdp_cpu.proofs.CalmTurns.{calm_none}
use Rattle.pdp_cpu.specs.Turns.CalmTurns.{after_calm_turns}
use Rattle.pdp_replay.proofs.ask.TurnConditions.{none_unmet_while_same}
use Rattle.pdp_replay.proofs.ask.sought.pass_same_word.Goals as goal

pub returns-then-number-core_len-clause-turns : goal.returns-then-number-core_len-clause-turns
returns-then-number-core_len-clause-turns c =
    sym (ap (λ n. after_calm_turns n c.args.machine.now) c.pass_none.ensures.none ∙ calm_none c.args.machine.now)

pub returns-clause-none : goal.returns-clause-none
returns-clause-none c =
    none_unmet_while_same c.args.conditions c.in-Some.number c.run_calmly_to_write.result c.args.machine.now
    (sym c.unmet_word.ensures ∙ c.in-Some.is) (omega (arith, c.if-number-core_len.false, c.core_len.ensures)) c.run_calmly_to_write.ensures.word
