pub mod Entries
pub mod Feeds
pub mod Gathering
pub mod Layers
pub mod Line
pub mod Lines
pub mod Stacks
pub mod Tables
