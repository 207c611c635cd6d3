use Rattle.pdp_made.proofs.Courses.{sequence_followed, sequences}
use Rattle.pdp_made.proofs.laws.rows_tell_what_sequences_make.Goals as goal

pub returns-clause-follows : goal.returns-clause-follows
returns-clause-follows c = sequence_followed

pub returns-clause-tells : goal.returns-clause-tells
returns-clause-tells c = sequences
