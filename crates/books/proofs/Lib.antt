-- The lemmas that books share.
pub mod Searches
pub mod Places
pub mod Feeding
pub mod Answers
