pub mod Handbook
pub mod Phases
-- how functions of the code and plans belong together
pub mod Contract
pub mod Laws
-- what attributes open, by a shorter path
unfoldable pub use Rattle.pdp_operand.specs.Handbook.Operand.{find}
unfoldable pub use Rattle.pdp_operand.specs.Handbook.Processor.{IsRunning, register_of}
unfoldable pub use Rattle.pdp_operand.specs.Handbook.Reference.{perform}
unfoldable pub use Rattle.pdp_operand.specs.Phases.Phase.{run}
