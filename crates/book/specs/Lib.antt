pub mod Kept
pub mod View
pub mod Answers
pub mod Readings
pub mod Asked
pub mod Covering
