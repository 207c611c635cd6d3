-- What the handbooks say of the bus: its cycles, and the beginning of a turn.
pub mod BusWorld
pub mod Shown
pub mod Cycle
pub mod Tape
pub mod Beginning
pub mod LastTurn
pub mod Placed
pub mod Drives
