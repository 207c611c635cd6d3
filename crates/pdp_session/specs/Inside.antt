-- How far a session has come, and what its parts do: a proof's own. No public contract names this.
pub mod Progress
pub mod Sends
