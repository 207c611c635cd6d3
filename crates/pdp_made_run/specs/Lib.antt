-- What a run is made of, and when what it is made of is the same.
pub mod Origins
-- The rows of a turn, in the order of a turn.
pub mod DiskRows
pub mod BeginningRows
pub mod TurnRows
pub mod RunRows
-- A run, worked out.
pub mod Example
