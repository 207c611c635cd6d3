-- What the laws of turns speak of.
pub mod TurnLaws
