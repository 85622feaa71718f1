pub mod Written
pub mod Rows
pub mod Outcomes
pub mod Holding
pub mod Passes
pub mod Turned
pub mod Legs
pub mod Walked
