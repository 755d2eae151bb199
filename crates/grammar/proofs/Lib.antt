pub mod Unique
pub mod Joining
pub mod Parts
pub mod Figured
