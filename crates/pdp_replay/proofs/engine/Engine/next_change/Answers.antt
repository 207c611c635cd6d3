use Rattle.std.proofs.Common.{◌≡◌, refl, subst}
use Rattle.pdp_replay.specs.Ask.Known.{RunsFrom}
use Rattle.pdp_replay.specs.Ask.DiskChanges.{word_changes}
use Rattle.pdp_replay.specs.Ask.Searches.{IsFirst}
use Rattle.pdp_replay.specs.Past.{Past, past_from}
use Rattle.pdp_replay.specs.Timeline.{Timeline}
use Rattle.pdp_replay.proofs.ask.Searches.{first_is}
use Rattle.pdp_replay.proofs.ask.Resuming.{runs_from}
use Rattle.pdp_replay.proofs.engine.Engine.next_change.Goals as goal
use Rattle.pdp_replay.proofs.engine.Engine.next_change.Goals.{After-find_change-found}

-- where the search went on from and what it came to, also if memory was refused
runs : (c : After-find_change-found) (now : Timeline) → now.turns ≡ c.find_change-found.new.run.meter
    → now.turn ≡ c.find_change-found.new.run.machine.state.turn → now.known ≡ c.find_change-found.new.run.known
    → now.current ≡ c.find_change-found.new.run.is_current → now.stride ≡ c.find_change-found.new.run.ladder.stride
    → RunsFrom c.args.from c.args.self.now now
runs c now turns turn known current stride =
    let e = c.self.inside in
    let p : Past = past_from e.base_setup e.run.machine.state.world.bus.tape e.delays e.patches e.script in
    let run = c.find_change-found.ensures.kept p refl c.self.invariant.run in
    subst (λ (t : Timeline). RunsFrom c.args.from t now) c.self.view_is
    (runs_from p e.highest c.args.to c.args.from e.run c.find_change-found.new.run now c.self.invariant.run.kept.states run.kept.states
    c.find_change-found.ensures.advances turns turn known current stride)

pub returns-in_err-turn-clause-runs : goal.returns-in_err-turn-clause-runs
returns-in_err-turn-clause-runs c = λ asked. runs (goal.at.returns-in_err-turn-clause-runs c).After-find_change-found _ refl refl refl refl refl

pub returns-clause-runs : goal.returns-clause-runs
returns-clause-runs c = λ asked. runs (goal.at.returns-clause-runs c).After-find_change-found _ refl refl refl refl refl

pub returns-clause-value : goal.returns-clause-value
returns-clause-value c =
    let e = c.self.inside in
    let p : Past = past_from e.base_setup e.run.machine.state.world.bus.tape e.delays e.patches e.script in
    let turn = c.in_ok-turn.turn in
    rw c.of.ensures.value (
    first_is (word_changes c.args.drive c.args.number c.args.self.now.past) c.args.from c.args.to turn c.in_ok-check_change.ensures.order
    (subst (λ (t : Timeline). IsFirst (word_changes c.args.drive c.args.number t.past) c.args.from c.args.to turn) c.self.view_is
    (subst (λ drive. IsFirst (word_changes drive c.args.number p) c.args.from c.args.to turn) c.from.ensures
    (c.in_ok-turn.ensures.found p refl c.self.invariant.run))))
