pub mod Changes
pub mod Calls
pub mod Made
pub mod Looks
