pub mod CarriedTraps
pub mod Carried
pub mod TurnRuns
pub mod PendingTraps
pub mod Events
pub mod TurnLaws
pub mod DriveSizes
pub mod Halted
pub mod Dues
mod KeptTexts
pub mod CalmDrives
pub mod CalmTurns
pub mod Rules
pub mod Logged
