pub mod Handbook
pub mod Watch
pub mod Laws
pub mod RequestLaws
-- what attributes open, by a shorter path
unfoldable pub use Rattle.pdp_io_page.specs.Handbook.Register.{after_read, value_in}
unfoldable pub use Rattle.pdp_io_page.specs.Handbook.Source.{chosen_source, requests}
