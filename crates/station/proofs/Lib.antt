pub mod ByCalls
mod Sayings
mod Turning
pub mod Knowing
pub mod Growth
pub mod TakingGrows
pub mod TurningGrows
pub mod Soundness
pub mod Counting
pub mod Feeding
pub mod Settling
pub mod Same
