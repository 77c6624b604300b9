pub mod Masks
pub mod Rings
pub mod Promises
pub mod Examples
