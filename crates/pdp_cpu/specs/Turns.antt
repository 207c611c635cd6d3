-- A turn of the machine, and the machine as a contract sees it.
pub mod TurnRun
pub mod CalmTurns
