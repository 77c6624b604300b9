pub mod Meaning
pub mod Seats
pub mod Calls
pub mod Questions
pub mod Making
pub mod Performing
