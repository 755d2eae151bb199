pub mod Reading
mod Cutting
pub mod Lines
