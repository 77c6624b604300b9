-- The definitions that books share.
pub mod Limits
pub mod Places
pub mod Feeding
pub mod Answers
