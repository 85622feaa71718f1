pub mod Refusals
pub mod Lodging
pub mod Meaning
