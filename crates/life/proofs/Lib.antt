pub mod Slips
pub mod Plays
pub mod Rests
