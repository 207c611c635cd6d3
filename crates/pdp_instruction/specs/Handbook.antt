-- What the handbook says: the plan of each instruction.
pub mod Operands
pub mod Execute
pub mod Moves
pub mod OneOperand
pub mod TwoOperands
pub mod PreviousMode
pub mod Extended
pub mod ChangeCodes
pub mod Branch
pub mod Jump
pub mod Control
pub mod TrapSequence
pub mod ReturnFromTrap
pub mod Action
pub mod Instruction
