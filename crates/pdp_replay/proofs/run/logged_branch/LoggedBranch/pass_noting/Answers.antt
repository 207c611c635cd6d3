use Rattle.std.proofs.Common.{◌≡◌, ◌∙◌, ap}
use Rattle.pdp_store.specs.CycleLogs.{without_cycles}
use Rattle.pdp_cpu.specs.Handbook.MachineState.{MachineState, MachineWithTexts, after_turn, state_with_log, world_with_first_touches}
use Rattle.pdp_script.specs.Entries.{events_at}
use Rattle.pdp_turn_moves.specs.ActMoves.{made_in_act}
use Rattle.pdp_turn_moves.specs.Beginnings.{beginning_told}
use Rattle.pdp_replay.proofs.ask.MovesListed.{noted_there}
use Rattle.pdp_replay.proofs.ask.TurnAccesses.{after_there}
use Rattle.pdp_replay.proofs.run.LoggedTurns.{goes_on_logging, kind_stays, logged_turn}
use Rattle.pdp_replay.proofs.run.logged_branch.LoggedBranch.pass_noting.Goals as goal
use Rattle.pdp_replay.proofs.run.logged_branch.LoggedBranch.pass_noting.Goals.{After-run}

-- the state of the machine as its turn begins
begins : (c : After-run) → c.ready.new.self.state ≡ state_with_log (without_cycles c.args.self.now.machine.state.world.bus.log) c.args.self.now.machine.state
begins c = c.ready.ensures.same ∙ ap (λ (m : MachineWithTexts). m.state) c.clear_log.ensures

-- and after it
ends : (c : After-run) → c.run.new.machine.state
    ≡ logged_turn (events_at c.args.script.now.entries c.args.self.now.machine.state.turn) (without_cycles c.args.self.now.machine.state.world.bus.log) c.args.self.now.machine.state
ends c =
    let entries = c.args.script.now.entries in
    c.run.ensures.runs.turn
    ∙ ap (λ events. after_turn events c.ready.new.self.state) (c.at.ensures.events ∙ ap (events_at entries) c.turns-turn.ensures)
    ∙ ap (λ (s : MachineState). after_turn (events_at entries s.turn) s) (begins c)

pub returns-clause-notes : goal.returns-clause-notes
returns-clause-notes c = λ p same here.
    let run = (goal.at.returns-clause-notes c).After-run in
    let entries = c.args.script.now.entries in
    let m = c.args.self.now.machine.state in
    let s = c.ready.new.self.state in
    let touches = c.ready.new.self.first_touches in
    let events = c.at.ensures.events ∙ ap (events_at entries) c.turns-turn.ensures in
    noted_there p c.args.script.now (without_cycles m.world.bus.log) m touches c.run.new.self same here
    (c.run.ensures.beginning
    ∙ ap (λ es. beginning_told s.turn es s.world.bus) events
    ∙ ap (λ (s : MachineState). beginning_told s.turn (events_at entries s.turn) s.world.bus) (begins run))
    (λ d. c.run.ensures.act d
    ∙ ap (λ es. made_in_act s.turn es (world_with_first_touches s.world touches) d) events
    ∙ ap (λ (s : MachineState). made_in_act s.turn (events_at entries s.turn) (world_with_first_touches s.world touches) d) (begins run))

pub returns-clause-cycles : goal.returns-clause-cycles
returns-clause-cycles c = λ p same here.
    let m = c.args.self.now.machine.state in
    ap (λ (s : MachineState). s.world.bus.log.told)
    (after_there p c.args.script.now (without_cycles m.world.bus.log) m c.run.new.machine.state same here c.requires.log
    (ends (goal.at.returns-clause-cycles c).After-run))

pub returns-clause-way : goal.returns-clause-way
returns-clause-way c = λ p same here.
    goes_on_logging p c.args.script.now _ c.args.self.now.machine.state c.run.new.machine.state same here
    (ends (goal.at.returns-clause-way c).After-run)

pub returns-clause-log : goal.returns-clause-log
returns-clause-log c =
    kind_stays c.args.script.now c.args.self.now.machine.state c.run.new.machine.state (ends (goal.at.returns-clause-log c).After-run) ∙ c.requires.log
