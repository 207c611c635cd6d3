use Rattle.std.proofs.Common.{◌∙◌, ap, refl, sym, take}
use Rattle.std.proofs.lemmas.List.{drop_all}
use Rattle.std.proofs.lemmas.Result.{err_from_is_err_and}
use Rattle.pdp_moves.specs.PlanRows.{written_at}
use Rattle.pdp_moves.proofs.PlanMoves.{begins, can_run, finishes, finishes_told, goes, halts, halts_told}
use Rattle.pdp_moves.proofs.noted_step.note_steps.Goals as goal

pub loop-step-init : goal.loop-step-init
loop-step-init g c = begins c.args.saving c.args.steps.now _ _ _ c.clear.ensures c.requires.ready

pub moves_of_step-moves-requires : goal.moves_of_step-moves-requires
moves_of_step-moves-requires g c =
    can_run c.args.saving c.args.steps.now c.loop-step.step-index _ _ _ _ _ c.loop-step-test.true c.loop-step.invariant _ refl

pub run_step-requires : goal.run_step-requires
run_step-requires g c =
    can_run c.args.saving c.args.steps.now c.loop-step.step-index _ _ _ _ _ c.loop-step-test.true c.loop-step.invariant _ refl

pub loop-step-preserved : goal.loop-step-preserved
loop-step-preserved g c = rw c.push.ensures.items
    (goes c.args.saving c.args.steps.now c.loop-step.step-index _ _ _ _ _ c.loop-step-test.true c.loop-step.invariant _ _ _ _
    (c.written_at-written.ensures ∙ ap (written_at c.args.saving) (c.len.ensures.value ∙ c.loop-step.invariant.count))
    c.in_ok-run_step.ensures.phase c.run_step.ensures.fits (c.moves_of_step-moves.ensures _) refl)

pub returns-in_err-run_step-clause-phases : goal.returns-in_err-run_step-clause-phases
returns-in_err-run_step-clause-phases g c =
    let (trap, is, same) = err_from_is_err_and c.from_residual.result c.from_residual.ensures.1 in
    rw (is, same) (halts c.args.saving c.args.steps.now c.loop-step.step-index _ _ _ _ _ c.loop-step-test.true c.loop-step.invariant _
    c.in_err-run_step.ensures.phase)

pub returns-in_err-run_step-clause-made : goal.returns-in_err-run_step-clause-made
returns-in_err-run_step-clause-made g c = λ saved cell.
    halts_told c.args.saving c.args.steps.now c.loop-step.step-index _ _ _ _ _ c.loop-step-test.true c.loop-step.invariant _
    c.in_err-run_step.ensures.phase saved cell

pub returns-in_err-run_step-clause-steps : goal.returns-in_err-run_step-clause-steps
returns-in_err-run_step-clause-steps g c =
    c.loop-step.invariant.names ∙ ap (λ k. take k c.args.steps.now) (sym c.loop-step.invariant.count)

pub returns-clause-phases : goal.returns-clause-phases
returns-clause-phases g c =
    finishes c.args.saving c.args.steps.now c.loop-step.step-index _ _ _ _ (drop_all c.loop-step.step-index c.args.steps.now c.loop-step-test.false) c.loop-step.invariant

pub returns-clause-made : goal.returns-clause-made
returns-clause-made g c =
    finishes_told c.args.saving c.args.steps.now c.loop-step.step-index _ _ _ _ (drop_all c.loop-step.step-index c.args.steps.now c.loop-step-test.false) c.loop-step.invariant

pub returns-clause-steps : goal.returns-clause-steps
returns-clause-steps g c =
    c.loop-step.invariant.names ∙ ap (λ k. take k c.args.steps.now) (sym c.loop-step.invariant.count)
