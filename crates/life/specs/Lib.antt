pub mod Turn
pub mod Matched
pub mod Reported
