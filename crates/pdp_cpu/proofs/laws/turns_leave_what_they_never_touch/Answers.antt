use Rattle.pdp_cpu.proofs.TurnLaws.{turn_undisturbed}
use Rattle.pdp_cpu.proofs.laws.turns_leave_what_they_never_touch.Goals as goal

pub returns : goal.returns
returns c = λ part page t events p b other alike avoids. turn_undisturbed part page t events p b other alike avoids
