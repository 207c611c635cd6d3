use Rattle.std.proofs.Common.{sym}
use Rattle.pdp_rk11.proofs.FirstTouches.{none_performed}
use Rattle.pdp_rk11.proofs.rk.Rk.run_unless_refused.Goals as goal

pub returns-in-Some-clause-first_touches : goal.returns-in-Some-clause-first_touches
returns-in-Some-clause-first_touches g c = none_performed _ _ _ _ _ (sym c.in-Some.ensures.value)
