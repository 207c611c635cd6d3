use Rattle.pdp_made.specs.Cells.{no_saved_codes}
use Rattle.pdp_turn_moves.proofs.Turns.{begun_told, turn_made}
use Rattle.pdp_turn_moves.proofs.turn_moves.TurnMoves.run.Goals as goal

pub returns-clause-beginning : goal.returns-clause-beginning
returns-clause-beginning g c =
    begun_told c.args.machine.now c.args.events.now c.bus.result.now c.turns.result c.of-self.result c.bus.ensures c.turns.ensures c.of-self.ensures.told

pub returns-clause-act : goal.returns-clause-act
returns-clause-act g c = λ cell. c.turn_by.ensures.has_run no_saved_codes cell

pub returns-clause-made : goal.returns-clause-made
returns-clause-made g c =
    turn_made c.args.machine.now c.args.events.now c.bus.result.now c.turns.result c.of-self.result c.turn_by.new.runs.noted c.bus.ensures c.turns.ensures c.of-self.ensures.origins c.turn_by.ensures.has_run
