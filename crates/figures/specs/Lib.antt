pub mod Curves
pub mod Books
pub mod Table
