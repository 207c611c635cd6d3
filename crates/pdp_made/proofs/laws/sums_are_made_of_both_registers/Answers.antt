use Rattle.pdp_made.proofs.Example.{goes, high_of_sum, low_of_sum}
use Rattle.pdp_made.proofs.laws.sums_are_made_of_both_registers.Goals as goal

pub returns-clause-way : goal.returns-clause-way
returns-clause-way c = λ saved other s u alike. goes saved other s u alike

pub returns-clause-low : goal.returns-clause-low
returns-clause-low c = λ saved s. low_of_sum saved s

pub returns-clause-high : goal.returns-clause-high
returns-clause-high c = λ saved s. high_of_sum saved s
