pub mod Says
pub mod Marks
pub mod Stack
pub mod Machine
pub mod Refusing
pub mod Views
pub mod Reads
