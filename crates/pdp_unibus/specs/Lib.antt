pub mod Handbook
pub mod Fetch
pub mod SingleBytes
pub mod Direct
pub mod Calm
pub mod KeyLaws
pub mod Frame
pub mod RuleLaws
pub mod ByteLaws
pub mod Trace
pub mod Page
pub mod Touched
pub mod SavedBusData
pub mod PatchedPages
pub mod SavedDrives
pub mod SavedTouches
-- what attributes open, by a shorter path
unfoldable pub use Rattle.pdp_unibus.specs.Handbook.Beginning.{after_beginning, before_disk}
