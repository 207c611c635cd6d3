-- The steps, the phase of each, and what a function that runs one promises.
pub mod Steps
pub mod Contract
-- The steps of each action.
pub mod ActionSteps
