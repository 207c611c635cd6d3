use Rattle.std.proofs.Common.{arith, subst, sym}
use Rattle.pdp_checkpoint.specs.Formers.{IsFirstFrom, IsLeastFrom}
use Rattle.pdp_checkpoint.proofs.FormerStates.{earlier_first, first_first, least_first}
use Rattle.pdp_checkpoint.proofs.former.earlier.Goals as goal

pub returns-then-other-turn : goal.returns-then-other-turn
returns-then-other-turn c = λ states state same is. earlier_first states c.args.turn c.args.first state (omega (arith, same, c.if-other-turn.true)) is

pub returns-in-Some : goal.returns-in-Some
returns-in-Some c = λ states state same is.
    subst (IsLeastFrom _ c.args.turn) (sym c.min.ensures)
    (least_first states c.args.turn c.in-Some.least c.args.other state same c.if-other-turn.false (subst (IsFirstFrom states c.args.turn) c.in-Some.is is))

pub returns-in-None : goal.returns-in-None
returns-in-None c = λ states state same is.
    first_first states c.args.turn c.args.other state same c.if-other-turn.false (subst (IsFirstFrom states c.args.turn) c.in-None.is is)
