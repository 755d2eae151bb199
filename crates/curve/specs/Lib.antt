pub mod Points
pub mod Page
pub mod Listed
pub mod Held
pub mod Changes
pub mod Card
pub mod Lot
pub mod Laws
