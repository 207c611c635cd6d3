use Rattle.pdp_turn_moves.proofs.Turns.{none_made}
use Rattle.pdp_turn_moves.proofs.turn_moves.TurnMoves.empty.Goals as goal

pub returns : goal.returns
returns c = none_made c.empty.result c.empty.ensures
