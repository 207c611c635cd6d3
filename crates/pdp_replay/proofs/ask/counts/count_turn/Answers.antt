use Rattle.std.proofs.Common.{◌+◌, ◌≡◌, ◌∙◌, ap, sym}
use Rattle.pdp_cpu.specs.Handbook.MachineState.{MachineState}
use Rattle.pdp_script.specs.Entries.{events_at}
use Rattle.pdp_replay.proofs.ask.CountedTurns.{adds_next, few_after}
use Rattle.pdp_replay.proofs.run.Ways.{way_on_with_room}
use Rattle.pdp_replay.proofs.ask.counts.count_turn.Goals as goal
use Rattle.pdp_replay.proofs.ask.counts.count_turn.Goals.{After-turn-act}

-- the turn is the next one
next : (c : After-turn-act) → c.turn-act.new.self.state.turn ≡ c.args.machine.now.state.turn + 1
next c =
    ap (λ (s : MachineState). s.turn) c.turn-act.ensures.runs.turn ∙ ap (λ (s : MachineState). s.turn + 1) c.ready.ensures.same

pub returns-clause-counts : goal.returns-clause-counts
returns-clause-counts c = λ p known is way.
    let turn = next (goal.at.returns-clause-counts c).After-turn-act in
    adds_next p c.args.words known c.args.events.now c.args.machine.now c.ready.new.self c.turn-act.new.self.state.turn
    c.pc-pc.result c.mode-mode.result c.turn-act.result c.args.counts.now.items c.note.new.counts.items is way
    c.ready.ensures.same c.pc-pc.ensures c.mode-mode.ensures c.turn-act.ensures.act turn c.note.ensures

pub returns-clause-few : goal.returns-clause-few
returns-clause-few c =
    few_after c.args.words c.turn-act.result c.pc-pc.result c.mode-mode.result c.args.machine.now.state.turn c.turn-act.new.self.state.turn
    c.args.counts.now.items c.note.new.counts.items (next (goal.at.returns-clause-few c).After-turn-act) c.note.ensures c.requires.few

pub returns-clause-way : goal.returns-clause-way
returns-clause-way c = λ p known is way.
    let ready = c.ready in
    way_on_with_room p known c.args.machine.now ready.new.self c.turn-act.new.self c.args.events.now way
    ready.ensures.same ready.ensures.same_text ready.ensures.same_punched ready.ensures.same_first_touches
    (is ∙ ap (λ (s : MachineState). events_at p.script.entries s.turn) (sym ready.ensures.same))
    c.turn-act.ensures.runs.turn c.turn-act.ensures.runs.kept_text c.turn-act.ensures.runs.kept_punched c.turn-act.ensures.runs.first_touches
