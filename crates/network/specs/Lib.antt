pub mod Sums
pub mod Flow
pub mod Residual
pub mod Round
pub mod Augment
pub mod Same
pub mod Laws
