use Rattle.pdp_made.proofs.ActionRows.{rows_sound}
use Rattle.pdp_made.proofs.Courses.{instruction_sound, sequence_sound}
use Rattle.pdp_made.proofs.laws.each_row_tells_what_its_phase_makes.Goals as goal

pub returns-clause-actions : goal.returns-clause-actions
returns-clause-actions c = λ a. rows_sound a

pub returns-clause-instructions : goal.returns-clause-instructions
returns-clause-instructions c = instruction_sound

pub returns-clause-sequences : goal.returns-clause-sequences
returns-clause-sequences c = λ marks vector context. sequence_sound marks vector context
