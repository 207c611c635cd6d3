use Rattle.pdp_made_past.proofs.ListedCells.{all_listed, unlisted_stay}
use Rattle.pdp_made_past.proofs.laws.unlisted_cells_stay.Goals as goal

pub returns-clause-cycles : goal.returns-clause-cycles
returns-clause-cycles c = λ p t logged. all_listed p t logged

pub returns-clause-cells : goal.returns-clause-cells
returns-clause-cells c = λ p t d held none. unlisted_stay p t d held none
