use Rattle.std.proofs.Common.{◌∙◌, ap, map, sym, subst}
use Rattle.pdp_steps.specs.Contract.{CanRunInOrder}
use Rattle.pdp_steps.specs.Steps.{phase_of}
use Rattle.pdp_steps.proofs.ActionPhases.{action_phases, action_ready}
use Rattle.pdp_steps.proofs.action_steps.steps_of.Goals as goal

pub returns-clause-phases : goal.returns-clause-phases
returns-clause-phases c = ap (map phase_of) c.add_action.ensures ∙ action_phases c.args.action

pub returns-clause-ready : goal.returns-clause-ready
returns-clause-ready c = λ size.
    subst (λ steps. CanRunInOrder steps size) (sym c.add_action.ensures) (action_ready c.args.action size)
