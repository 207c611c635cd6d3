use Rattle.pdp_made.proofs.ActionRows.{rows_phases}
use Rattle.pdp_made.proofs.Courses.{red_phases, trap_phases}
use Rattle.pdp_made.proofs.laws.rows_are_those_of_plans.Goals as goal

pub returns-clause-actions : goal.returns-clause-actions
returns-clause-actions c = λ saved a. rows_phases saved a

pub returns-clause-traps : goal.returns-clause-traps
returns-clause-traps c = λ marks vector context saved. trap_phases marks vector context saved

pub returns-clause-red : goal.returns-clause-red
returns-clause-red c = λ context saved. red_phases context saved
