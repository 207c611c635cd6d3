use Rattle.std.proofs.Common.{take, ◌-◌, ◌≡◌, refl, subst}
use Rattle.pdp_replay.specs.Ask.Known.{RunsFrom}
use Rattle.pdp_replay.specs.Past.{Past, past_from}
use Rattle.pdp_replay.specs.Timeline.{Timeline}
use Rattle.pdp_replay.specs.Ask.DiskCompletions.{completion_in, completions_in_turns}
use Rattle.pdp_replay.proofs.ask.ListedTurns.{all_listed}
use Rattle.pdp_replay.proofs.ask.Resuming.{runs_from}
use Rattle.pdp_replay.proofs.engine.Engine.disk_completions.Goals as goal
use Rattle.pdp_replay.proofs.engine.Engine.disk_completions.Goals.{After-find_completions-found}

-- where the search went on from and what it came to, whether memory was refused or not
runs : (c : After-find_completions-found) (now : Timeline) → now.turns ≡ c.find_completions-found.new.run.meter
    → now.turn ≡ c.find_completions-found.new.run.machine.state.turn → now.known ≡ c.find_completions-found.new.run.known
    → now.current ≡ c.find_completions-found.new.run.is_current → now.stride ≡ c.find_completions-found.new.run.ladder.stride
    → RunsFrom c.args.from c.args.self.now now
runs c now turns turn known current stride =
    let e = c.self.inside in
    let p : Past = past_from e.base_setup e.run.machine.state.world.bus.tape e.delays e.patches e.script in
    let run = c.find_completions-found.ensures.kept p refl c.self.invariant.run in
    subst (λ (t : Timeline). RunsFrom c.args.from t now) c.self.view_is
    (runs_from p e.highest c.args.to c.args.from e.run c.find_completions-found.new.run now c.self.invariant.run.kept.states run.kept.states
    c.find_completions-found.ensures.advances turns turn known current stride)

pub returns-in_err-completions-clause-runs : goal.returns-in_err-completions-clause-runs
returns-in_err-completions-clause-runs c = λ asked. runs (goal.at.returns-in_err-completions-clause-runs c).After-find_completions-found _ refl refl refl refl refl

pub returns-clause-runs : goal.returns-clause-runs
returns-clause-runs c = λ asked. runs (goal.at.returns-clause-runs c).After-find_completions-found _ refl refl refl refl refl

pub returns-clause-value : goal.returns-clause-value
returns-clause-value c =
    let e = c.self.inside in
    let p : Past = past_from e.base_setup e.run.machine.state.world.bus.tape e.delays e.patches e.script in
    let completions = c.in_ok-completions.completions in
    let found = c.in_ok-completions.ensures in
    let from = c.args.from in
    rw c.of.ensures.value (
    subst (λ (t : Timeline). completions.items ≡ take 256 (completions_in_turns t.past from (c.args.to - from))) c.self.view_is
    (all_listed (completion_in p from) from c.find_completions-found.new.run.machine.state.turn c.args.to completions.items
    found.least c.find_completions-found.ensures.advances.turn_most found.early found.most (found.completions p refl c.self.invariant.run)))
