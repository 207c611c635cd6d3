pub mod FirstLines
pub mod AnsweredLines
