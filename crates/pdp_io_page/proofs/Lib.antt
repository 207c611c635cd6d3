pub mod RequestLaws
pub mod Rules
pub mod StatusLaws
pub mod Watching
