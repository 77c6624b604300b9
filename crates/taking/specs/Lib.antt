pub mod Lawful
pub mod Take
