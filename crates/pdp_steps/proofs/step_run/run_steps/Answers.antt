use Rattle.std.proofs.Common.{◌≡◌, ◌∙◌, drop}
use Rattle.std.proofs.lemmas.List.{drop_all}
use Rattle.std.proofs.lemmas.Result.{err_from_is_err_and}
use Rattle.pdp_steps.proofs.Single.{ready_more, steps_done, steps_more, steps_stopped}
use Rattle.pdp_steps.proofs.step_run.run_steps.Goals as goal

pub loop-step-preserved : goal.loop-step-preserved
loop-step-preserved g c =
    let xs = c.args.steps.now in
    let n = c.loop-step.step-index in (
      c.loop-step.invariant.0 ∙ steps_more xs n _ _ _ c.loop-step-test.true c.in_ok-run_kind.ensures.phase,
      ready_more xs n _ _ _ c.loop-step-test.true c.loop-step.invariant.1 c.run_kind.ensures.fits,
    )

pub returns-in_err-run_kind : goal.returns-in_err-run_kind
returns-in_err-run_kind g c =
    let (trap, is, same) = err_from_is_err_and c.from_residual.result c.from_residual.ensures.1 in
    rw (is, same) (c.loop-step.invariant.0
    ∙ steps_stopped c.args.steps.now c.loop-step.step-index _ _ _ c.loop-step-test.true c.in_err-run_kind.ensures.phase)

pub returns : goal.returns
returns g c =
    let xs = c.args.steps.now in
    let n = c.loop-step.step-index in
    c.loop-step.invariant.0 ∙ steps_done (drop n xs) _ (drop_all n xs c.loop-step-test.false)
