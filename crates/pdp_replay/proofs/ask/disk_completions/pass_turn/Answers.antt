use Rattle.std.proofs.Common.{◌≡◌, ◌∙◌, ◌+◌, ap, arith, refl, subst}
use Rattle.pdp_cpu.specs.Handbook.MachineState.{MachineState}
use Rattle.pdp_replay.specs.Past.{Past}
use Rattle.pdp_replay.specs.Run.KeptRuns.{Advances, ArrivesAt, IsOnWay, IsUnderWay, MetersWay}
use Rattle.pdp_replay.proofs.run.Coming.{advances_from, arrives_from}
use Rattle.pdp_replay.proofs.run.OnWay.{on_way_settled, way_stepped}
use Rattle.pdp_replay.proofs.ask.DiskCompletions.{disk_turn_there}
use Rattle.pdp_replay.proofs.ask.disk_completions.pass_turn.Goals as goal
use Rattle.pdp_replay.proofs.ask.disk_completions.pass_turn.Goals.{After-settle}

-- the machine is on its way after its turn, before the run settles there
turned : (c : After-settle) (p : Past) → p.script ≡ c.args.script.now → IsOnWay p c.args.run.now
    → IsUnderWay p c.args.run.now.known c.turn_and_tell_disk-told.new.self
turned c p same on =
    let ready = c.ready.ensures in
    let turn = c.turn_and_tell_disk-told.ensures.runs in
    way_stepped p c.args.script.now c.args.run.now c.ready.new.self c.turn_and_tell_disk-told.new.self c.turns-turn.result c.at.result.now same on
    ready.same ready.same_text ready.same_punched ready.same_first_touches c.turns-turn.ensures c.at.ensures.events turn.turn turn.kept_text turn.kept_punched turn.first_touches

-- at the turn after the one before
turn_on : (c : After-settle) → c.turn_and_tell_disk-told.new.self.state.turn ≡ c.args.run.now.machine.state.turn + 1
turn_on c =
    let now = ap (λ (s : MachineState). s.turn) c.turn_and_tell_disk-told.ensures.runs.turn in
    let before = ap (λ (s : MachineState). s.turn) c.ready.ensures.same in
    omega (arith, now, before)

-- and once it settled it is as far on
advanced : (c : After-settle)
    → Advances c.args.run.now.machine.state.turn (c.args.run.now.machine.state.turn + 1) c.args.run.now c.settle.new.self
advanced c =
    let turn = turn_on c in
    let counted = c.turn_and_tell_disk-told.ensures.runs.counted.0 in
    let grows = c.turn_and_tell_disk-told.ensures.runs.counted.1 in
    advances_from _ _ _ c.args.run.now _ c.settle.new.self refl refl (omega (arith, turn, counted)) grows c.settle.ensures.advances (omega (arith, turn))

pub returns-in_err-settle-clause-kept : goal.returns-in_err-settle-clause-kept
returns-in_err-settle-clause-kept c = λ p same on. c.settle.ensures.kept p on.kept.states (turned (goal.at.returns-in_err-settle-clause-kept c).After-settle p same on)

pub returns-clause-kept : goal.returns-clause-kept
returns-clause-kept c = λ p same on. c.settle.ensures.kept p on.kept.states (turned (goal.at.returns-clause-kept c).After-settle p same on)

pub returns-clause-way : goal.returns-clause-way
returns-clause-way c = λ p same on.
    let way = turned (goal.at.returns-clause-way c).After-settle p same on in
    let settled = c.in_ok-settle.ensures in
    on_way_settled p c.args.run.now.known c.turn_and_tell_disk-told.new.self c.settle.new.self way (c.settle.ensures.kept p on.kept.states way).kept settled.machine settled.arrives.known

pub returns-clause-arrives : goal.returns-clause-arrives
returns-clause-arrives c =
    subst (λ n. ArrivesAt n c.args.run.now c.settle.new.self) (turn_on (goal.at.returns-clause-arrives c).After-settle)
    (arrives_from _ c.args.run.now _ c.settle.new.self refl c.in_ok-settle.ensures.arrives)

pub returns-in_err-settle-clause-advances : goal.returns-in_err-settle-clause-advances
returns-in_err-settle-clause-advances c = advanced (goal.at.returns-in_err-settle-clause-advances c).After-settle

pub returns-clause-advances : goal.returns-clause-advances
returns-clause-advances c = advanced (goal.at.returns-clause-advances c).After-settle

pub returns-clause-turn : goal.returns-clause-turn
returns-clause-turn c = c.turns-turn.ensures ∙ ap (λ (s : MachineState). s.turn) c.ready.ensures.same

pub returns-clause-disk : goal.returns-clause-disk
returns-clause-disk c = λ p same on.
    disk_turn_there p c.args.script.now c.at.result.now c.args.run.now.machine.state c.ready.new.self.state c.turns-turn.result
    c.disk-before.result c.turn_and_tell_disk-told.result.disk same on.here c.ready.ensures.same c.at.ensures.events c.turns-turn.ensures
    c.disk-before.ensures c.turn_and_tell_disk-told.ensures.disk

-- and the meter counted each turn
metered : (c : After-settle) → MetersWay c.args.run.now c.settle.new.self
metered c =
    let turn = turn_on c in
    let counted = c.turn_and_tell_disk-told.ensures.runs.counted.0 in
    let grows = c.turn_and_tell_disk-told.ensures.runs.counted.1 in
    let settled = c.settle.ensures.advances in
    let most = settled.turn_most in
    let on = settled.ran in
    let meter = c.settle.ensures.meter in
    omega (arith, turn, counted, grows, most, on, meter)

pub returns-in_err-settle-clause-metered : goal.returns-in_err-settle-clause-metered
returns-in_err-settle-clause-metered c = metered (goal.at.returns-in_err-settle-clause-metered c).After-settle

pub returns-clause-metered : goal.returns-clause-metered
returns-clause-metered c = metered (goal.at.returns-clause-metered c).After-settle
