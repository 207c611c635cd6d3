pub mod KeptTexts
-- what a meter of turns counts
pub mod Meters
pub mod Handbook
pub mod Turns
pub mod Saved
pub mod SavedOutput
pub mod Laws
pub mod Drives
