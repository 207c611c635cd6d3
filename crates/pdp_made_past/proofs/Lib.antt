pub mod Pasts
pub mod RowCycles
pub mod KeptRows
pub mod KeptCourses
pub mod LoggedRows
pub mod FewCycles
pub mod KeptCells
pub mod ListedCells
