use Rattle.std.proofs.Common.{◌∙◌, ap, sym}
use Rattle.pdp_script.specs.Entries.{events_at}
use Rattle.pdp_replay.proofs.run.Ways.{way_on_with_room}
use Rattle.pdp_replay.proofs.run.turns.next_turn.Goals as goal

pub returns-clause-way : goal.returns-clause-way
returns-clause-way c = λ p known same way.
    let ready = c.ready.new.self in
    way_on_with_room p known c.args.machine.now ready c.turn.new.self c.at.result.now way
    c.ready.ensures.same c.ready.ensures.same_text c.ready.ensures.same_punched c.ready.ensures.same_first_touches
    (c.at.ensures.events ∙ ap (events_at c.args.script.now.entries) c.turns-turn.ensures ∙ ap (λ s. events_at s.entries ready.state.turn) (sym same))
    c.turn.ensures.runs.turn c.turn.ensures.runs.kept_text c.turn.ensures.runs.kept_punched c.turn.ensures.runs.first_touches
