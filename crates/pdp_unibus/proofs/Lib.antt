pub mod AccessNotes
pub mod Beginnings
pub mod Carried
pub mod CompletionLaws
pub mod Devices
pub mod Frame
pub mod KeyLaws
pub mod OutputLaws
pub mod RuleLaws
pub mod TapeLaws
pub mod Tapes
pub mod QuietBeginnings
pub mod Directs
pub mod Kept
pub mod Pairs
mod SavedDrives
mod ComparedDrives
mod PatchedPages
pub mod FewerDrives
pub mod Rules
pub mod ShownWords
pub mod Logged
