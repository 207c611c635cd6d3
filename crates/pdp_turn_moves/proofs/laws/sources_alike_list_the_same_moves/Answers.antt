use Rattle.std.proofs.Common.{ap}
use Rattle.pdp_turn_moves.specs.ActMoves.{moves_of_act}
use Rattle.pdp_turn_moves.proofs.laws.sources_alike_list_the_same_moves.Goals as goal

pub returns : goal.returns
returns c = λ made other cycles alike. ap (λ sources. moves_of_act sources cycles) (λ i d. alike d i)
