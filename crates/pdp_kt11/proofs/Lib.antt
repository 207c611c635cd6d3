pub mod AbortLaws
pub mod Holding
pub mod Keeping
pub mod PageLaws
pub mod ReadBackLaws
pub mod Rules
pub mod WrittenLaws
