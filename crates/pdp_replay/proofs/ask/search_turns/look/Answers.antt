use Rattle.std.proofs.Common.{◌+◌, ◌≡◌, ◌∙◌, ap, arith, subst, sym}
use Rattle.pdp_cpu.specs.Handbook.MachineState.{MachineState}
use Rattle.pdp_script.specs.Entries.{events_at}
use Rattle.pdp_replay.specs.Ask.Searches.{EndsAfter, IsFirst}
use Rattle.pdp_replay.specs.Ask.Watches.{IsInside, StaysWith, is_watched_at}
use Rattle.pdp_replay.proofs.ask.Searches.{ends_after_turn}
use Rattle.pdp_replay.proofs.ask.Watches.{first_met, inside_same, inside_turn}
use Rattle.pdp_replay.proofs.run.Ways.{way_on_with_room, way_stays}
use Rattle.pdp_replay.proofs.ask.search_turns.look.Goals as goal
use Rattle.pdp_replay.proofs.ask.search_turns.look.Goals.{After-turn-told}

-- the turn is the next one
next : (c : After-turn-told) → c.turn-told.new.machine.state.turn ≡ c.args.machine.now.state.turn + 1
next c =
    ap (λ (s : MachineState). s.turn) c.turn-told.ensures.runs.turn ∙ ap (λ (s : MachineState). s.turn + 1) c.ready.ensures.same

-- after it the machine can be watched, and is on its way
inside : (c : After-turn-told) → IsInside c.args.watch c.turn-told.new.machine
inside c =
    inside_turn c.args.watch c.args.events.now c.args.machine.now c.ready.new.self c.turn-told.new.machine c.ready.ensures.same c.turn-told.ensures.runs.turn
    c.requires.inside

came : (c : After-turn-told) → StaysWith c.args.events.now c.args.machine.now c.turn-told.new.machine
came c = λ p known is way.
    let ready = c.ready in
    way_on_with_room p known c.args.machine.now ready.new.self c.turn-told.new.machine c.args.events.now way
    ready.ensures.same ready.ensures.same_text ready.ensures.same_punched ready.ensures.same_first_touches
    (is ∙ ap (λ (s : MachineState). events_at p.script.entries s.turn) (sym ready.ensures.same))
    c.turn-told.ensures.runs.turn c.turn-told.ensures.runs.kept_text c.turn-told.ensures.runs.kept_punched c.turn-told.ensures.runs.first_touches

pub is_met-requires : goal.is_met-requires
is_met-requires c = record { inside = inside (goal.at.is_met-requires c).After-turn-told }

pub returns-in_err-ready-clause-way : goal.returns-in_err-ready-clause-way
returns-in_err-ready-clause-way c = λ p known is way.
    let ready = c.ready in
    way_stays p known c.args.machine.now ready.new.self way ready.ensures.same ready.ensures.same_text ready.ensures.same_punched ready.ensures.same_first_touches

pub returns-clause-way : goal.returns-clause-way
returns-clause-way c = came (goal.at.returns-clause-way c).After-turn-told

pub returns-clause-found : goal.returns-clause-found
returns-clause-found c = λ p known is way.
    let after = (goal.at.returns-clause-found c).After-turn-told in
    subst (λ found. IsFirst (is_watched_at p c.args.watch) c.args.machine.now.state.turn c.turn-told.new.machine.state.turn found) (sym c.turn_if-found.ensures)
    (first_met p c.args.watch known c.args.events.now c.args.machine.now c.ready.new.self c.turn-told.new.machine c.turns-turn.result
    c.is_possible-possible.result c.turn-told.result c.is_met.result is way (came after p known is way) c.ready.ensures.same c.turns-turn.ensures
    c.is_possible-possible.ensures c.turn-told.ensures.told c.is_met.ensures (next after) (inside after))

pub returns-clause-ends : goal.returns-clause-ends
returns-clause-ends c =
    let turn = ap (λ (s : MachineState). s.turn) c.turn-told.ensures.runs.turn ∙ ap (λ t. t + 1) (sym c.turns-turn.ensures) in
    subst (EndsAfter c.turn-told.new.machine.state.turn) (sym c.turn_if-found.ensures)
    (ends_after_turn c.turns-turn.result c.turn-told.new.machine.state.turn c.is_met.result turn)

pub returns-in_err-ready-clause-runs : goal.returns-in_err-ready-clause-runs
returns-in_err-ready-clause-runs c =
    let turn = ap (λ (s : MachineState). s.turn) c.ready.ensures.same in
    record {
      inside = inside_same c.args.watch c.args.machine.now c.ready.new.self c.ready.ensures.same c.requires.inside;
      least = omega (arith, turn);
      most = omega (arith, turn);
      ran = omega (arith, turn);
    }

pub returns-clause-runs : goal.returns-clause-runs
returns-clause-runs c =
    let after = (goal.at.returns-clause-runs c).After-turn-told in
    let turn = next after in
    let counted = c.turn-told.ensures.runs.counted.0 in
    let grows = c.turn-told.ensures.runs.counted.1 in
    record {
      inside = inside after;
      least = omega (arith, turn);
      most = omega (arith, turn);
      ran = omega (arith, turn, counted, grows);
    }
