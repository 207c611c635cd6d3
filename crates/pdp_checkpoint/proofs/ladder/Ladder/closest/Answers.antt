use Rattle.std.proofs.Common.{◌≡◌, ◌∙◌, ◌++◌, ap, append-nil, arith, get_or, subst}
use Rattle.std.proofs.lemmas.List.{take_all}
use Rattle.pdp_checkpoint.specs.Formers.{IsClosest}
use Rattle.pdp_checkpoint.proofs.Closest.{looked_at_more, now_closest, still_closest}
use Rattle.pdp_checkpoint.proofs.ladder.Ladder.closest.Goals as goal
use Rattle.pdp_checkpoint.proofs.ladder.Ladder.closest.Goals.{then-closest-state+then-state-turn, else-closest-state, else-closest-state-via-then-closest-state+else-state-turn, else-closest-state-via-else-closest-state}

pub loop-state-init : goal.loop-state-init
loop-state-init c =
    let best = c.best-closest.ensures in
    let turn = best.turn in
    (rw (append-nil c.args.self.now.kept) (record { place = _; state = best.state; below = best.below; greatest = best.greatest }), omega (arith, turn))

pub loop-state-preserved : goal.loop-state-preserved
loop-state-preserved c =
    let l = c.args.self.now in
    let d = c.state-item.result in
    let k = c.loop-state.state-index in
    let near : c.deref-state-items.result.now ≡ l.near = c.deref-state-items.ensures.value ∙ ap (λ l. l.near) c.self.view_is in
    let is : d ≡ get_or l.near k d = subst (λ xs. d ≡ get_or xs k d) near c.state-item.is in
    let more = looked_at_more l.kept l.near k d (rw (← near) c.loop-state-test.true) is in
    let closest = c.loop-state.invariant.0 in
    let later = c.loop-state.invariant.1 in
    elim c.if-closest-state.branch [
      | then-closest-state+then-state-turn w ↦
          let closer = w.if-closest-state.true in
          rw (w.closest-is, more) (now_closest _ _ _ d closest closer w.if-state-turn.true, omega (arith, later, closer))
      | else-closest-state w ↦
          elim w.else-closest-state.branch [
            | else-closest-state-via-then-closest-state+else-state-turn v ↦
                let above = v.if-state-turn.false in
                rw (w.closest-is, more) (still_closest _ _ _ d closest (λ low. absurd (omega (arith, above, low))), later)
            | else-closest-state-via-else-closest-state v ↦
                rw (w.closest-is, more) (still_closest _ _ _ d closest (λ low. v.if-closest-state.false), later)
          ]
    ]

pub returns-clause-closest : goal.returns-clause-closest
returns-clause-closest c =
    let l = c.args.self.now in
    let near : c.deref-state-items.result.now ≡ l.near = c.deref-state-items.ensures.value ∙ ap (λ l. l.near) c.self.view_is in
    subst (λ xs. IsClosest (l.kept ++ xs) c.args.turn c.loop-state.closest.now)
    (take_all c.loop-state.state-index l.near (rw (← near) c.loop-state-test.false)) c.loop-state.invariant.0

pub returns-clause-near : goal.returns-clause-near
returns-clause-near c = λ low.
    let near = c.best-closest.ensures.near low in
    let turn = c.best-closest.ensures.turn in
    let later = c.loop-state.invariant.1 in
    omega (arith, near, turn, later)
