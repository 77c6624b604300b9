pub mod Amounts
pub mod Outcomes
pub mod Requests
pub mod Sheet
