use Rattle.pdp_turn_moves.proofs.NotedTurns.{act_moves_alike, act_restamped}
use Rattle.pdp_turn_moves.proofs.laws.notes_of_accesses_move_nothing.Goals as goal

pub returns-clause-log : goal.returns-clause-log
returns-clause-log c = λ t events w log touches d. act_moves_alike t events w log touches d

pub returns-clause-stamps : goal.returns-clause-stamps
returns-clause-stamps c = λ t events w stamps d. act_restamped t events w stamps d
