use Rattle.std.proofs.Common.{◌∙◌, ap}
use Rattle.pdp_turn_moves.specs.declared.found_events.FoundEvents.{FoundEvents}
use Rattle.pdp_turn_moves.specs.Beginnings.{disk_moved, reader_moved}
use Rattle.pdp_turn_moves.proofs.BeginningTold.{beginning_told, told_of}
use Rattle.pdp_turn_moves.proofs.beginning_moves.BeginningMoves.of.Goals as goal

pub returns-clause-told : goal.returns-clause-told
returns-clause-told g c =
    let found = c.of-found.ensures in
    let t = c.args.turn in
    let b = c.args.bus.now in
    told_of t c.args.events.now b _
    (ap (λ (f : FoundEvents). f.key) found)
    (ap (λ (f : FoundEvents). f.switches) found)
    (c.reader_move.ensures ∙ ap (λ (f : FoundEvents). reader_moved t f.reader_done b) found)
    (c.disk_moves.ensures ∙ ap (λ (f : FoundEvents). disk_moved t f.disk_done b) found)

pub returns-clause-origins : goal.returns-clause-origins
returns-clause-origins g c =
    let found = c.of-found.ensures in
    let t = c.args.turn in
    let b = c.args.bus.now in
    beginning_told t c.args.events.now b _
    (ap (λ (f : FoundEvents). f.key) found)
    (ap (λ (f : FoundEvents). f.switches) found)
    (c.reader_move.ensures ∙ ap (λ (f : FoundEvents). reader_moved t f.reader_done b) found)
    (c.disk_moves.ensures ∙ ap (λ (f : FoundEvents). disk_moved t f.disk_done b) found)
