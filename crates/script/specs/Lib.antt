pub mod Words
pub mod Commands
pub mod Parts
pub mod Reading
pub mod Limits
pub mod Lines
pub mod Script
pub mod Arguments
