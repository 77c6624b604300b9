-- The definitions of the claim book.
pub mod Limits
pub mod ClaimBook
pub mod ClaimState
pub mod ClaimLaws
