pub mod Table
pub mod Drawn
pub mod Record
pub mod Outcome
pub mod Agreement
pub mod Paths
pub mod Listing
pub mod Laws
