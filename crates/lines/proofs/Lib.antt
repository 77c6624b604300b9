pub mod Parts
pub mod Queues
pub mod Posts
