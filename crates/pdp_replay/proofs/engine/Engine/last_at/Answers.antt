use Rattle.std.proofs.Common.{refl, subst}
use Rattle.pdp_replay.specs.Past.{Past, past_from}
use Rattle.pdp_replay.specs.Timeline.{Timeline}
use Rattle.pdp_replay.specs.Ask.Backwards.{IsLastOf}
use Rattle.pdp_replay.specs.Ask.SoughtTurns.{is_sought_at}
use Rattle.pdp_replay.proofs.ask.LastTurns.{last_is}
use Rattle.pdp_replay.proofs.engine.Engine.last_at.Goals as goal

pub returns-clause-value : goal.returns-clause-value
returns-clause-value c =
    let e = c.self.inside in
    let p : Past = past_from e.base_setup e.run.machine.state.world.bus.tape e.delays e.patches e.script in
    let turn = c.in_ok-turn.turn in
    rw c.of.ensures.value (
    last_is (is_sought_at c.args.self.now.past c.args.sought) c.args.from c.args.to turn c.in_ok-check_seek.ensures.order
    (subst (λ (t : Timeline). IsLastOf (is_sought_at t.past c.args.sought) c.args.from c.args.to turn) c.self.view_is
    (c.in_ok-turn.ensures.found p refl c.self.invariant.run)))
