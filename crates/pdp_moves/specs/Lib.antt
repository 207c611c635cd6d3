-- Moves, and the names of cells in the code.
pub mod Moves
pub mod CellNames
-- The rows of steps.
pub mod StepRows
-- What the code builds up.
pub mod Built
-- Steps that are run one after the other.
pub mod PlanRows
-- Plans that follow one another, as those of an instruction and of its trap.
pub mod CourseMoves
