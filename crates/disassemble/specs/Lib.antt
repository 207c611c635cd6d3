pub mod Line
pub mod Answer
pub mod Ending
pub mod CommandLine
