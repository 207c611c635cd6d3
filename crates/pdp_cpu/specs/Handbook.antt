-- What the handbook says of a turn, and the machine as a contract sees it.
pub mod Due
pub mod Turn
pub mod TurnDisk
pub mod TurnTrap
pub mod MachineState
pub mod Regs
