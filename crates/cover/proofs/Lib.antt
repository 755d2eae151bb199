pub mod First
pub mod Totals
pub mod Loading
pub mod Allocating
