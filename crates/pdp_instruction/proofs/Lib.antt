pub mod Steps
pub mod Endings
pub mod FetchTraps
pub mod PlanSizes
pub mod StatusKept
pub mod PlansKeepStatus
pub mod Fetches
pub mod Rules
