pub mod Posts
pub mod Played
pub mod Round
pub mod Steps
pub mod Calls
pub mod Whole
