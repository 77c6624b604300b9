pub mod Searches
pub mod Removals
pub mod Room
pub mod Receivers
