use Rattle.std.proofs.Common.{◌≡◌, arith, refl, subst}
use Rattle.pdp_unibus.specs.Handbook.LastTurn.{last_turn}
use Rattle.pdp_replay.specs.Ask.Known.{RunsFrom}
use Rattle.pdp_replay.specs.Ask.Searches.{IsFirst}
use Rattle.pdp_replay.specs.Ask.TextParts.{comes_out}
use Rattle.pdp_replay.specs.Past.{Past, past_from}
use Rattle.pdp_replay.specs.Timeline.{Timeline}
use Rattle.pdp_replay.proofs.ask.Searches.{first_is}
use Rattle.pdp_replay.proofs.ask.Resuming.{runs_from}
use Rattle.pdp_replay.proofs.engine.Engine.turn_of_byte.Goals as goal
use Rattle.pdp_replay.proofs.engine.Engine.turn_of_byte.Goals.{After-find_byte-found}

-- where the run went on from and what it came to, also if memory was refused
runs : (c : After-find_byte-found) (now : Timeline) → now.turns ≡ c.find_byte-found.new.run.meter
    → now.turn ≡ c.find_byte-found.new.run.machine.state.turn → now.known ≡ c.find_byte-found.new.run.known
    → now.current ≡ c.find_byte-found.new.run.is_current → now.stride ≡ c.find_byte-found.new.run.ladder.stride
    → RunsFrom c.args.self.now.known c.args.self.now now
runs c now turns turn known current stride =
    let e = c.self.inside in
    let p : Past = past_from e.base_setup e.run.machine.state.world.bus.tape e.delays e.patches e.script in
    let run = c.find_byte-found.ensures.kept p refl c.self.invariant.run in
    subst (λ (t : Timeline). RunsFrom t.known t now) c.self.view_is
    (runs_from p e.highest last_turn e.run.known e.run c.find_byte-found.new.run now c.self.invariant.run.kept.states run.kept.states
    c.find_byte-found.ensures.advances turns turn known current stride)

pub returns-in_err-turn-clause-runs : goal.returns-in_err-turn-clause-runs
returns-in_err-turn-clause-runs c = runs (goal.at.returns-in_err-turn-clause-runs c).After-find_byte-found _ refl refl refl refl refl

pub returns-clause-runs : goal.returns-clause-runs
returns-clause-runs c = runs (goal.at.returns-clause-runs c).After-find_byte-found _ refl refl refl refl refl

pub returns-clause-value : goal.returns-clause-value
returns-clause-value c =
    let e = c.self.inside in
    let p : Past = past_from e.base_setup e.run.machine.state.world.bus.tape e.delays e.patches e.script in
    let turn = c.in_ok-turn.turn in
    rw c.of.ensures.value (
    first_is (comes_out c.args.kind c.args.number c.args.self.now.past) 0 last_turn turn (omega arith)
    (subst (λ (t : Timeline). IsFirst (comes_out c.args.kind c.args.number t.past) 0 last_turn turn) c.self.view_is
    (c.in_ok-turn.ensures.found p refl c.self.invariant.run)))
