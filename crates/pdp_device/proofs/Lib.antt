pub mod TransmitterLaws
pub mod RequestLaws
