-- The machine of phases: what it sees, a phase, a plan, a course.
pub mod World
pub mod Phase
pub mod Plan
pub mod Course
