use Rattle.std.proofs.Common.{◌≡◌, refl, subst}
use Rattle.pdp_replay.specs.Ask.Known.{RunsFrom}
use Rattle.pdp_replay.specs.Past.{Past, past_from}
use Rattle.pdp_replay.specs.Timeline.{Timeline}
use Rattle.pdp_replay.proofs.ask.Resuming.{runs_from}
use Rattle.pdp_replay.proofs.engine.Engine.text_from.Goals as goal
use Rattle.pdp_replay.proofs.engine.Engine.text_from.Goals.{After-read_from-read}

-- where the run went on from and what it came to, also if memory was refused
runs : (c : After-read_from-read) (now : Timeline) → now.turns ≡ c.read_from-read.new.run.meter
    → now.turn ≡ c.read_from-read.new.run.machine.state.turn → now.known ≡ c.read_from-read.new.run.known
    → now.current ≡ c.read_from-read.new.run.is_current → now.stride ≡ c.read_from-read.new.run.ladder.stride
    → RunsFrom c.args.turn c.args.self.now now
runs c now turns turn known current stride =
    let e = c.self.inside in
    let p : Past = past_from e.base_setup e.run.machine.state.world.bus.tape e.delays e.patches e.script in
    let run = c.read_from-read.ensures.kept p refl c.self.invariant.run in
    subst (λ (t : Timeline). RunsFrom c.args.turn t now) c.self.view_is
    (runs_from p e.highest c.args.turn c.args.turn e.run c.read_from-read.new.run now c.self.invariant.run.kept.states run.kept.states
    c.read_from-read.ensures.advances turns turn known current stride)

pub returns-in_err-bytes-clause-runs : goal.returns-in_err-bytes-clause-runs
returns-in_err-bytes-clause-runs c = λ asked. runs (goal.at.returns-in_err-bytes-clause-runs c).After-read_from-read _ refl refl refl refl refl

pub returns-clause-runs : goal.returns-clause-runs
returns-clause-runs c = λ asked. runs (goal.at.returns-clause-runs c).After-read_from-read _ refl refl refl refl refl
