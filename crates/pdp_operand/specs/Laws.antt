-- What the laws of courses speak of.
pub mod Trace
pub mod Count
pub mod Touched
pub mod Page
pub mod Aborted
