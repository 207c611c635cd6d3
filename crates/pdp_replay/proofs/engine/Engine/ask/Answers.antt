use Rattle.std.proofs.Common.{◌≡◌, ℕ, ap, refl, subst, sym, ◌*◌, ◌+◌, ◌≤◌}
use Rattle.pdp_replay.specs.Ask.Answer.{first_turn_needed}
use Rattle.pdp_replay.specs.Ask.Known.{RunsFrom, resumed_from}
use Rattle.pdp_replay.specs.Past.{Past, past_from}
use Rattle.pdp_replay.specs.Timeline.{Timeline}
use Rattle.pdp_replay.proofs.ask.Resuming.{come_is, resumed_is}
use Rattle.pdp_replay.proofs.engine.Engine.ask.Goals as goal
use Rattle.pdp_replay.proofs.engine.Engine.ask.Goals.{After-answer-answered}

-- where the question went on from and what it came to, answered or refused for memory, as a
-- contract of an engine tells it
runs : (c : After-answer-answered) (now : Timeline) → now.turns ≡ c.answer-answered.new.run.meter
    → now.turn ≡ c.answer-answered.new.run.machine.state.turn → now.known ≡ c.answer-answered.new.run.known
    → now.current ≡ c.answer-answered.new.run.is_current → now.stride ≡ c.answer-answered.new.run.ladder.stride
    → RunsFrom (first_turn_needed c.args.question) c.args.self.now now
runs c now turns turn known current stride =
    let e = c.self.inside in
    let p : Past = past_from e.base_setup e.run.machine.state.world.bus.tape e.delays e.patches e.script in
    let after = c.answer-answered.new.run in
    let first : ℕ = first_turn_needed c.args.question in
    let on = c.answer-answered.ensures.advances in
    let run = c.answer-answered.ensures.kept p refl c.self.invariant.run in
    let ran = subst (λ n. after.meter + n ≤ e.run.meter + after.machine.state.turn) (resumed_is p e.run first c.self.invariant.run.kept.states) on.ran in
    let told = subst (λ (t : Timeline). after.meter + resumed_from t first ≤ t.turns + after.machine.state.turn) c.self.view_is ran in
    record {
      resumed = rw (turns, turn) told;
      come = come_is e.run after c.args.self.now now on.come (ap (λ (t : Timeline). t.known) (sym c.self.view_is)) known turn current
          (rw (known, stride) (ap (λ n. n * after.ladder.stride) (sym run.kept.states.count)));
    }

pub returns-in_err-value-clause-runs : goal.returns-in_err-value-clause-runs
returns-in_err-value-clause-runs c = λ asked. runs (goal.at.returns-in_err-value-clause-runs c).After-answer-answered _ refl refl refl refl refl

pub returns-clause-runs : goal.returns-clause-runs
returns-clause-runs c = λ asked. runs (goal.at.returns-clause-runs c).After-answer-answered _ refl refl refl refl refl
