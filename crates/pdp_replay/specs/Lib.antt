-- What determines a run, the run that an engine keeps, the engine as a contract sees it, and what a
-- question must be answered [P].
pub mod Past
pub mod Run
pub mod Timeline
pub mod Ask
