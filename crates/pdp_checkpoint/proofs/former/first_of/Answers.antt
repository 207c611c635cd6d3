use Rattle.std.proofs.Common.{◌++◌, append-nil, refl, subst, sym, take}
use Rattle.std.proofs.lemmas.List.{take_all}
use Rattle.pdp_checkpoint.specs.Formers.{IsFirstFrom}
use Rattle.pdp_checkpoint.proofs.Closest.{looked_at_more}
use Rattle.pdp_checkpoint.proofs.former.first_of.Goals as goal

pub loop-state-init : goal.loop-state-init
loop-state-init c = λ others is. subst (λ xs. IsFirstFrom xs c.args.turn c.args.first) (sym (append-nil others)) is

pub loop-state-preserved : goal.loop-state-preserved
loop-state-preserved c = λ others is.
    let k = c.loop-state.state-index in
    let d = c.state-item.result in
    let more = looked_at_more others c.args.states.now k d c.loop-state-test.true c.state-item.is in
    subst (λ xs. IsFirstFrom xs c.args.turn c.earlier-first.result) (sym more)
    (c.earlier-first.ensures (others ++ take k c.args.states.now) d refl (c.loop-state.invariant others is))

pub returns : goal.returns
returns c = λ others is.
    subst (λ xs. IsFirstFrom (others ++ xs) c.args.turn c.loop-state.first) (take_all c.loop-state.state-index c.args.states.now c.loop-state-test.false)
    (c.loop-state.invariant others is)
