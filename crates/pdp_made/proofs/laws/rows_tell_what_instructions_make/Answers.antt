use Rattle.pdp_made.proofs.Courses.{instruction_followed, instructions}
use Rattle.pdp_made.proofs.laws.rows_tell_what_instructions_make.Goals as goal

pub returns-clause-follows : goal.returns-clause-follows
returns-clause-follows c = instruction_followed

pub returns-clause-tells : goal.returns-clause-tells
returns-clause-tells c = instructions
