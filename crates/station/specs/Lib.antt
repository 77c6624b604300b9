pub mod Model
pub mod Rules
pub mod Sound
pub mod Meaning
pub mod Laws
pub mod Examples
