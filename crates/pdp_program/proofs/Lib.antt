pub mod NamedFiles
pub mod ReadFiles
