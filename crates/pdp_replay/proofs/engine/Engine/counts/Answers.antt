use Rattle.std.proofs.Common.{◌-◌, ◌≡◌, refl, subst}
use Rattle.pdp_replay.specs.Ask.Known.{RunsFrom}
use Rattle.pdp_replay.specs.Ask.Counts.{counts_in_turns}
use Rattle.pdp_replay.specs.Past.{Past, past_from}
use Rattle.pdp_replay.specs.Timeline.{Timeline}
use Rattle.pdp_replay.proofs.ask.Resuming.{runs_from}
use Rattle.pdp_replay.proofs.engine.Engine.counts.Goals as goal
use Rattle.pdp_replay.proofs.engine.Engine.counts.Goals.{After-find_counts-counted}

-- where the count went on from and what it came to, whether memory was refused or not
runs : (c : After-find_counts-counted) (now : Timeline) → now.turns ≡ c.find_counts-counted.new.run.meter
    → now.turn ≡ c.find_counts-counted.new.run.machine.state.turn → now.known ≡ c.find_counts-counted.new.run.known
    → now.current ≡ c.find_counts-counted.new.run.is_current → now.stride ≡ c.find_counts-counted.new.run.ladder.stride
    → RunsFrom c.args.from c.args.self.now now
runs c now turns turn known current stride =
    let e = c.self.inside in
    let p : Past = past_from e.base_setup e.run.machine.state.world.bus.tape e.delays e.patches e.script in
    let run = c.find_counts-counted.ensures.kept p refl c.self.invariant.run in
    subst (λ (t : Timeline). RunsFrom c.args.from t now) c.self.view_is
    (runs_from p e.highest c.args.to c.args.from e.run c.find_counts-counted.new.run now c.self.invariant.run.kept.states run.kept.states
    c.find_counts-counted.ensures.advances turns turn known current stride)

pub returns-in_err-counts-clause-runs : goal.returns-in_err-counts-clause-runs
returns-in_err-counts-clause-runs c = λ asked. runs (goal.at.returns-in_err-counts-clause-runs c).After-find_counts-counted _ refl refl refl refl refl

pub returns-clause-runs : goal.returns-clause-runs
returns-clause-runs c = λ asked. runs (goal.at.returns-clause-runs c).After-find_counts-counted _ refl refl refl refl refl

pub returns-clause-value : goal.returns-clause-value
returns-clause-value c =
    let e = c.self.inside in
    let p : Past = past_from e.base_setup e.run.machine.state.world.bus.tape e.delays e.patches e.script in
    let words = c.args.words in
    let counts = c.in_ok-counts.counts in
    rw c.of.ensures.value (
    subst (λ (t : Timeline). counts.items ≡ counts_in_turns t.past words.mode words.first words.count c.args.from (c.args.to - c.args.from)) c.self.view_is
    (c.in_ok-counts.ensures.counts p refl c.self.invariant.run))
