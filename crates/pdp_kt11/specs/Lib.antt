pub mod Handbook
pub mod KeptTranslation
pub mod Laws
-- what attributes open, by a shorter path
unfoldable pub use Rattle.pdp_kt11.specs.Handbook.Kt.{page_at, with_page}
unfoldable pub use Rattle.pdp_kt11.specs.Handbook.Translation.{translate}
