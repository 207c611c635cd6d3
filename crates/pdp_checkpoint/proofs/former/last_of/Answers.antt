use Rattle.std.proofs.Common.{◌++◌, append-nil, option_map, subst, sym, take}
use Rattle.std.proofs.lemmas.List.{take_all}
use Rattle.pdp_checkpoint.specs.Formers.{IsLastBy}
use Rattle.pdp_checkpoint.proofs.Closest.{looked_at_more}
use Rattle.pdp_checkpoint.proofs.former.last_of.Goals as goal

pub loop-state-init : goal.loop-state-init
loop-state-init c = λ others is. subst (λ xs. IsLastBy xs c.args.turn (option_map (λ c. c.now) c.args.last)) (sym (append-nil others)) is

pub loop-state-preserved : goal.loop-state-preserved
loop-state-preserved c = λ others is.
    let k = c.loop-state.state-index in
    let d = c.state-item.result in
    let more = looked_at_more others c.args.states.now k d c.loop-state-test.true c.state-item.is in
    subst (λ xs. IsLastBy xs c.args.turn (option_map (λ c. c.now) c.later-last.result)) (sym more)
    (c.later-last.ensures (others ++ take k c.args.states.now) (c.loop-state.invariant others is))

pub returns : goal.returns
returns c = λ others is.
    subst (λ xs. IsLastBy (others ++ xs) c.args.turn (option_map (λ c. c.now) c.loop-state.last)) (take_all c.loop-state.state-index c.args.states.now c.loop-state-test.false)
    (c.loop-state.invariant others is)
