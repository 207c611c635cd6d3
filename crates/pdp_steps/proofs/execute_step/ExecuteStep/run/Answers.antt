use Rattle.pdp_steps.proofs.execute_step.ExecuteStep.run.Goals as goal

-- whatever the processor holds
pub returns-in-StoreCodes-clause-phase : goal.returns-in-StoreCodes-clause-phase
returns-in-StoreCodes-clause-phase g c = rw c.in-StoreCodes.is (c.store_codes.ensures c.args.processor.now)
