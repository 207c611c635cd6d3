-- What the run of a past makes, and when its inputs are the same as those of another past.
pub mod PastRows
-- What an act leaves.
pub mod KeptCells
