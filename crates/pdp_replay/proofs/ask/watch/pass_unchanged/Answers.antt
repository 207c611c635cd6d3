use Rattle.std.proofs.Common.{◌+◌, ◌∙◌, ap, arith, sym, slice_index}
use Rattle.pdp_store.specs.Parts.{words_of_drive}
use Rattle.pdp_cpu.proofs.CalmTurns.{calm_none}
use Rattle.pdp_replay.proofs.ask.watch.pass_unchanged.Goals as goal

pub returns-then-word-disk_word-clause-turns : goal.returns-then-word-disk_word-clause-turns
returns-then-word-disk_word-clause-turns c = sym (calm_none c.args.machine.now)

pub returns-then-word-disk_word-clause-none : goal.returns-then-word-disk_word-clause-none
returns-then-word-disk_word-clause-none c = λ k below. absurd (omega (arith, below))

pub returns-clause-none : goal.returns-clause-none
returns-clause-none c = λ k below.
    c.if-word-disk_word.false ∙ c.disk_word.ensures
    ∙ ap (λ drives. slice_index (words_of_drive drives c.args.drive) c.args.number) (sym (c.run_calmly.ensures.drives (k + 1) (omega (arith, below))))
