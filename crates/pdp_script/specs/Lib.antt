-- The script of a run, its edits, and the faults [P].
pub mod EditLaws
pub mod Entries
pub mod Fault
pub mod Refusal
pub mod Script
pub mod Labels
pub mod Restore
