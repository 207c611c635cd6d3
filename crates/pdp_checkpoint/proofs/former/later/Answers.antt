use Rattle.std.proofs.Common.{option_map, subst}
use Rattle.pdp_checkpoint.specs.Formers.{IsLastBy}
use Rattle.pdp_checkpoint.proofs.Closest.{now_closest, still_closest}
use Rattle.pdp_checkpoint.proofs.FormerStates.{first_last, later_last}
use Rattle.pdp_checkpoint.proofs.former.later.Goals as goal

pub returns-then-state-turn : goal.returns-then-state-turn
returns-then-state-turn c = λ states is. later_last states c.args.turn _ c.args.state.now c.if-state-turn.true is

pub returns-in-None : goal.returns-in-None
returns-in-None c = λ states is.
    first_last states c.args.turn c.args.state.now c.if-state-turn.false
    (subst (λ last. IsLastBy states c.args.turn (option_map (λ c. c.now) last)) c.in-None.is is)

pub returns-then-other-state : goal.returns-then-other-state
returns-then-other-state c = λ states is.
    now_closest states c.args.turn _ c.args.state.now (subst (λ last. IsLastBy states c.args.turn (option_map (λ c. c.now) last)) c.in-Some.is is)
    c.if-other-state.true c.if-state-turn.false

pub returns-else-other-state : goal.returns-else-other-state
returns-else-other-state c = λ states is.
    still_closest states c.args.turn _ c.args.state.now (subst (λ last. IsLastBy states c.args.turn (option_map (λ c. c.now) last)) c.in-Some.is is)
    (λ low. c.if-other-state.false)
