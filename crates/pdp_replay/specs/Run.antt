-- The states of a run, and what an engine keeps of it [P].
pub mod States
pub mod FirstTouches
pub mod Checkpoints
pub mod Strides
pub mod KeptRuns
pub mod Meetings
pub mod SavedMeetings
pub mod Adoptions
pub mod FormerRuns
pub mod Branches
pub mod Discrete
pub mod DiscreteParts
pub mod Decided
