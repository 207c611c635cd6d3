use Rattle.pdp_made.proofs.Courses.{alike_itself, along_itself}
use Rattle.pdp_made.proofs.laws.each_state_goes_the_same_way_as_itself.Goals as goal

pub returns-clause-alike : goal.returns-clause-alike
returns-clause-alike c = λ saved s. alike_itself saved s

pub returns-clause-way : goal.returns-clause-way
returns-clause-way c = λ rows saved s. along_itself rows saved s
