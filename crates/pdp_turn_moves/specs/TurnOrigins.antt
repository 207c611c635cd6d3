-- What a turn moves, as it is noted: back through its act, and then through its beginning. No rule
-- of the handbook is here.
use Rattle.std.specs.Prelude.{ℕ, List, flat_map}
use Rattle.pdp_made.specs.Cells.{DataCell}
use Rattle.pdp_made_run.specs.Origins.{Origin}
use Rattle.pdp_moves.specs.CourseMoves.{sources_of_act}
use Rattle.pdp_turn_moves.specs.Beginnings.{origins_told}
use Rattle.pdp_turn_moves.specs.declared.turn_moves.TurnMoves.{TurnMoves}

-- the origins of a cell, of turn t
abbrev pub origins_of_turn : ℕ → TurnMoves → DataCell → List Origin
origins_of_turn t moves c =
    flat_map (origins_told t moves.beginning) (sources_of_act moves.act.noted c)
