pub mod Lines
pub mod Calls
pub mod Making
pub mod Look
