use Rattle.pdp_operand.proofs.Outside.{course_undisturbed}
use Rattle.pdp_operand.proofs.laws.courses_leave_what_they_never_touch.Goals as goal

pub returns : goal.returns
returns c = λ part page course s other alike avoids. course_undisturbed part page course s other alike avoids
