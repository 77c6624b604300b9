pub mod Journal
pub mod Peers
pub mod Core
pub mod Settle
pub mod Members
