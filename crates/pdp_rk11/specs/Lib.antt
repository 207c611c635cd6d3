pub mod Handbook
pub mod Laws
pub mod CompletionMoves
pub mod Moves
pub mod Trace
pub mod Touched
-- what attributes open, by a shorter path
unfoldable pub use Rattle.pdp_rk11.specs.Handbook.Completion.{rk_transferred}
pub mod WordsDone
