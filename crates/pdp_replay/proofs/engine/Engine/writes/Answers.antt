use Rattle.std.proofs.Common.{take, ◌/◌, ◌-◌, ◌≡◌, refl, subst}
use Rattle.pdp_replay.specs.Ask.Known.{RunsFrom}
use Rattle.pdp_replay.specs.Past.{Past, past_from}
use Rattle.pdp_replay.specs.Timeline.{Timeline}
use Rattle.pdp_replay.specs.Ask.Writes.{write_in, writes_in_turns}
use Rattle.pdp_replay.proofs.ask.ListedTurns.{all_listed}
use Rattle.pdp_replay.proofs.ask.Resuming.{runs_from}
use Rattle.pdp_replay.proofs.engine.Engine.writes.Goals as goal
use Rattle.pdp_replay.proofs.engine.Engine.writes.Goals.{After-find_writes-found}

-- where the search went on from and what it came to, whether memory was refused or not
runs : (c : After-find_writes-found) (now : Timeline) → now.turns ≡ c.find_writes-found.new.run.meter
    → now.turn ≡ c.find_writes-found.new.run.machine.state.turn → now.known ≡ c.find_writes-found.new.run.known
    → now.current ≡ c.find_writes-found.new.run.is_current → now.stride ≡ c.find_writes-found.new.run.ladder.stride
    → RunsFrom c.args.from c.args.self.now now
runs c now turns turn known current stride =
    let e = c.self.inside in
    let p : Past = past_from e.base_setup e.run.machine.state.world.bus.tape e.delays e.patches e.script in
    let run = c.find_writes-found.ensures.kept p refl c.self.invariant.run in
    subst (λ (t : Timeline). RunsFrom c.args.from t now) c.self.view_is
    (runs_from p e.highest c.args.to c.args.from e.run c.find_writes-found.new.run now c.self.invariant.run.kept.states run.kept.states
    c.find_writes-found.ensures.advances turns turn known current stride)

pub returns-in_err-writes-clause-runs : goal.returns-in_err-writes-clause-runs
returns-in_err-writes-clause-runs c = λ asked. runs (goal.at.returns-in_err-writes-clause-runs c).After-find_writes-found _ refl refl refl refl refl

pub returns-clause-runs : goal.returns-clause-runs
returns-clause-runs c = λ asked. runs (goal.at.returns-clause-runs c).After-find_writes-found _ refl refl refl refl refl

pub returns-clause-value : goal.returns-clause-value
returns-clause-value c =
    let e = c.self.inside in
    let p : Past = past_from e.base_setup e.run.machine.state.world.bus.tape e.delays e.patches e.script in
    let writes = c.in_ok-writes.writes in
    let found = c.in_ok-writes.ensures in
    rw c.of.ensures.value (
    subst (λ (t : Timeline). writes.items ≡ take 256 (writes_in_turns t.past (c.args.address / 2) c.args.from (c.args.to - c.args.from))) c.self.view_is
    (subst (λ k. writes.items ≡ take 256 (writes_in_turns p k c.args.from (c.args.to - c.args.from))) c.in_ok-number.ensures.number
    (all_listed (write_in p c.in_ok-number.number) c.args.from c.find_writes-found.new.run.machine.state.turn c.args.to writes.items
    found.least c.find_writes-found.ensures.advances.turn_most found.ends found.most (found.writes p refl c.self.invariant.run))))
