use Rattle.pdp_made_run.proofs.Example.{high_of_switches, low_of_switches, switches_alike}
use Rattle.pdp_made_run.proofs.laws.switches_come_to_core.Goals as goal

pub returns-clause-low : goal.returns-clause-low
returns-clause-low c = λ word. low_of_switches word

pub returns-clause-high : goal.returns-clause-high
returns-clause-high c = λ word. high_of_switches word

pub returns-clause-way : goal.returns-clause-way
returns-clause-way c = λ word other. switches_alike word other
